-- Constant terms.
use Rattle.std.specs.Prelude.{◌&&◌, Bool, true}
use Rattle.std.specs.List.{list_all}
use Rattle.mm_ast.specs.declared.terms.Term.{Term}
use Rattle.mm_ast.specs.declared.terms.Term.TheFolds.{fold-Term}
use Rattle.mm_ast.specs.declared.terms.TermHead.{TermHead}
use Rattle.mm_ast.specs.declared.terms.TermHead.TheVariants as heads
use Rattle.mm_written.specs.Bodies.{written_callee}
use Rattle.mm_written.specs.Lists.{few}
use Rattle.mm_written.specs.Names.{written_variant_name}
use Rattle.mm_written.specs.Types.{written_args}

unfoldable pub written_term_head : TermHead → Bool
written_term_head (heads.Number number) = true
written_term_head (heads.Bool value) = true
written_term_head heads.Tuple = true
written_term_head (heads.New named variant) = written_args named && written_variant_name variant
written_term_head (heads.Fn callee) = written_callee callee
written_term_head (heads.At path) = true

-- the head, and the terms within
unfoldable pub written_term : Term → Bool
written_term = fold-Term Bool (λ layer. written_term_head layer.head && few layer.parts && list_all (λ written. written) layer.parts)
