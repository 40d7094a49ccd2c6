-- Constant terms with their names looked up.
use Rattle.std.specs.Prelude.{List, map}
use Rattle.mm_ast.specs.declared.terms.TermHead.{TermHead}
use Rattle.mm_ast.specs.declared.terms.TermHead.TheVariants as heads
use Rattle.mm_ast.specs.declared.terms.Term as written
use Rattle.mm_ast.specs.declared.terms.Term.TheFolds.{fold-Term}
use Rattle.mm_definitions.specs.declared.kinds.Kind.TheVariants as kinds
use Rattle.mm_definitions.specs.declared.kinds.Wanted.TheVariants as wants
use Rattle.mm_program.specs.declared.term.Term.{Term}
use Rattle.mm_program.specs.declared.term.Term.TheVariants as term
use Rattle.mm_lower.specs.Bodies.{made_of, variant_of}
use Rattle.mm_lower.specs.Callees.{callee_of}
use Rattle.mm_lower.specs.Params.{Params}
use Rattle.mm_lower.specs.Paths.{Paths, def_of}
use Rattle.mm_lower.specs.Types.{types_of}

module _ (paths : Paths) (params : Params) where
  -- a head over the terms below it
  unfoldable pub term_over : TermHead → List Term → Term
  term_over (heads.Number n) parts = term.Num n
  term_over (heads.Bool b) parts = term.Truth b
  term_over heads.Tuple parts = term.Tuple parts
  term_over (heads.New named variant) parts = term.New (made_of paths named variant) (types_of paths params named.args) (variant_of paths named variant) parts
  term_over (heads.Fn function) parts = term.Fn (callee_of paths params function)
  term_over (heads.At path) parts = term.At (def_of paths (wants.One kinds.Static) path)

  unfoldable pub term_of : written.Term → Term
  term_of = fold-Term Term (λ layer. term_over layer.head layer.parts)
