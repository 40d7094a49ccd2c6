use Rattle.mm_program.specs.Naming.{named_outside_in}
use Rattle.mm_program.proofs.MarkLemmas.{mark_each}
use Rattle.mm_program.proofs.marking.definitions.mark_definitions.Goals as goal

pub loop-part-preserved : goal.loop-part-preserved
loop-part-preserved c =
    mark_each named_outside_in c.args.defs.now c.loop-part.part-index c.part-item.result c.loop-part.marks c.mark_definition.new.marks _ c.loop-part-test.true c.part-item.is c.mark_definition.ensures c.loop-part.invariant
