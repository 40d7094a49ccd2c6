-- What is mentioned by constant terms.
use Rattle.std.specs.Prelude.{ℕ, List, [], ◌∷◌, ◌++◌, length, None}
use Rattle.std.specs.List.{flat_map}
use Rattle.mm_ast.specs.declared.terms.Term as terms
use Rattle.mm_ast.specs.declared.terms.Term.TheFolds.{fold-Term}
use Rattle.mm_ast.specs.declared.terms.TermHead.{TermHead}
use Rattle.mm_ast.specs.declared.terms.TermHead.TheVariants as heads
use Rattle.mm_definitions.specs.declared.kinds.Kind.TheVariants as kinds
use Rattle.mm_definitions.specs.declared.kinds.Wanted.TheVariants as wants
use Rattle.mm_mentions.specs.declared.mention.Mention.{Mention}
use Rattle.mm_mentions.specs.CalleeMentions.{callee_mentions, new_mentions}
use Rattle.mm_mentions.specs.Mentions.{path_at}
use Rattle.mm_mentions.specs.Scopes.{Scope}

-- the head of a term with so many parts
unfoldable pub term_head_mentions : Scope → TermHead → ℕ → List Mention
term_head_mentions scope (heads.New named variant) parts = new_mentions scope named variant parts
term_head_mentions scope (heads.Fn callee) parts = callee_mentions scope callee None
term_head_mentions scope (heads.At path) parts = path_at (wants.One kinds.Static) path 0 None ∷ []
term_head_mentions scope _ parts = []

-- the head, and then the terms within
unfoldable pub term_mentions : Scope → terms.Term → List Mention
term_mentions scope = fold-Term (List Mention) (λ layer. term_head_mentions scope layer.head (length layer.parts) ++ flat_map (λ mentions. mentions) layer.parts)

abbrev pub terms_mentions : Scope → List terms.Term → List Mention
terms_mentions scope terms = flat_map (term_mentions scope) terms
