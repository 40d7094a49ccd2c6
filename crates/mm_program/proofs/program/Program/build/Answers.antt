use Rattle.mm_program.proofs.TableLemmas.{made_tables}
use Rattle.mm_program.proofs.program.Program.build.Goals as goal

pub invariant_of-result : goal.invariant_of-result
invariant_of-result c =
    (c.requires, made_tables c.args.parts c.as_slice.result.now c.in_ok-impls.impls c.in_ok-impls.named c.as_slice.ensures c.in_ok-impls.ensures.impls c.in_ok-impls.ensures.named)
