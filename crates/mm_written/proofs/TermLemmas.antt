-- A constant term by its head and its parts.
use Rattle.std.proofs.Common.{◌≡◌, Bool, ◌&&◌, ◌∙◌}
use Rattle.std.specs.List.{list_all}
use Rattle.std.proofs.lemmas.List.Folds.{list_all-map}
use Rattle.mm_ast.specs.declared.terms.Term.{Term}
use Rattle.mm_ast.specs.declared.terms.Term.TheFolds.{fold_out-Term}
use Rattle.mm_ast.specs.declared.terms.Term.TheViews.{out-Term}
use Rattle.mm_written.specs.Lists.{few}
use Rattle.mm_written.specs.Terms.{written_term_head, written_term}
use Rattle.mm_written.proofs.ListLemmas.{few-map}

pub written_term_parts : (t : Term) → written_term t ≡ (written_term_head (out-Term t).head && few (out-Term t).parts && list_all written_term (out-Term t).parts)
unfolding written_term
written_term_parts t =
    fold_out-Term Bool (λ layer. written_term_head layer.head && few layer.parts && list_all (λ written. written) layer.parts) t
    ∙ (λ i. written_term_head (out-Term t).head && few-map (out-Term t).parts written_term i && list_all-map (λ written. written) written_term (out-Term t).parts i)
