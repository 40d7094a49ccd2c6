-- Terms by their heads and their parts.
use Rattle.std.proofs.Common.{◌≡◌, map, ◌∙◌}
use Rattle.mm_ast.specs.declared.terms.Term as written
use Rattle.mm_ast.specs.declared.terms.Term.TheFolds.{fold-Term, fold_out-Term}
use Rattle.mm_ast.specs.declared.terms.Term.TheViews.{out-Term}
use Rattle.mm_program.specs.declared.term.Term.{Term}
use Rattle.mm_lower.specs.Params.{Params}
use Rattle.mm_lower.specs.Paths.{Paths}
use Rattle.mm_lower.specs.Terms.{term_over, term_of}

pub term_of_parts : (paths : Paths) (params : Params) (t : written.Term) → term_of paths params t ≡ term_over paths params (out-Term t).head (map (term_of paths params) (out-Term t).parts)
unfolding term_of
term_of_parts paths params t = fold_out-Term Term (λ layer. term_over paths params layer.head layer.parts) t
