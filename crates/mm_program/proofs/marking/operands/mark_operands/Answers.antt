use Rattle.mm_program.specs.Naming.{named_in_operand}
use Rattle.mm_program.proofs.MarkLemmas.{mark_each}
use Rattle.mm_program.proofs.marking.operands.mark_operands.Goals as goal

pub loop-operand-preserved : goal.loop-operand-preserved
loop-operand-preserved c =
    mark_each named_in_operand c.args.operands.now c.loop-operand.operand-index c.operand-item.result c.loop-operand.marks c.mark_operand.new.marks _ c.loop-operand-test.true c.operand-item.is c.mark_operand.ensures c.loop-operand.invariant
