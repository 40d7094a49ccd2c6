use Rattle.mm_program.specs.Naming.{named_in_head}
use Rattle.mm_program.proofs.MarkLemmas.{mark_each}
use Rattle.mm_program.proofs.marking.types.mark_heads.Goals as goal

pub loop-head-preserved : goal.loop-head-preserved
loop-head-preserved c =
    mark_each named_in_head c.args.heads.now c.loop-head.head-index c.head-item.result c.loop-head.marks c.mark_head.new.marks _ c.loop-head-test.true c.head-item.is c.mark_head.ensures c.loop-head.invariant
