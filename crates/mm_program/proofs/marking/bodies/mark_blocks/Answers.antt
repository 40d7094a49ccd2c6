use Rattle.mm_program.specs.Naming.{named_in_block}
use Rattle.mm_program.proofs.MarkLemmas.{mark_each}
use Rattle.mm_program.proofs.marking.bodies.mark_blocks.Goals as goal

pub loop-block-preserved : goal.loop-block-preserved
loop-block-preserved c =
    mark_each named_in_block c.args.blocks.now c.loop-block.block-index c.block-item.result c.loop-block.marks c.mark_block.new.marks _ c.loop-block-test.true c.block-item.is c.mark_block.ensures c.loop-block.invariant
