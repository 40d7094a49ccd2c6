-- What is mentioned by a constant term, by its head and its parts.
use Rattle.std.proofs.Common.{◌≡◌, List, ◌++◌, length, ◌∙◌}
use Rattle.std.specs.List.{flat_map}
use Rattle.std.proofs.lemmas.List.{length-map}
use Rattle.std.proofs.lemmas.List.Folds.{flat_map-map}
use Rattle.mm_ast.specs.declared.terms.Term as terms
use Rattle.mm_ast.specs.declared.terms.Term.TheFolds.{fold_out-Term}
use Rattle.mm_ast.specs.declared.terms.Term.TheViews.{out-Term}
use Rattle.mm_mentions.specs.declared.mention.Mention.{Mention}
use Rattle.mm_mentions.specs.Scopes.{Scope}
use Rattle.mm_mentions.specs.TermMentions.{term_head_mentions, term_mentions, terms_mentions}

pub term_parts : (scope : Scope) (t : terms.Term) → term_mentions scope t ≡ term_head_mentions scope (out-Term t).head (length (out-Term t).parts) ++ terms_mentions scope (out-Term t).parts
unfolding term_mentions
term_parts scope t =
    fold_out-Term (List Mention) (λ layer. term_head_mentions scope layer.head (length layer.parts) ++ flat_map (λ mentions. mentions) layer.parts) t
    ∙ (λ i. term_head_mentions scope (out-Term t).head (length-map (out-Term t).parts (term_mentions scope) i) ++ flat_map-map (λ mentions. mentions) (term_mentions scope) (out-Term t).parts i)
