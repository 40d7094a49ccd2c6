use Rattle.std.proofs.Common.{arith, sym}
use Rattle.mm_objects.proofs.WriteLemmas.{blocks_more}
use Rattle.mm_objects.proofs.writing.write_blocks.Goals as goal

pub loop-block-preserved : goal.loop-block-preserved
loop-block-preserved c = record {
  wrote = blocks_more c.args.blocks.now c.loop-block.block-index c.loop-block.number c.block-item.result c.block-item.result _ _ _ c.loop-block-test.true c.loop-block.invariant.counts (sym c.block-item.is) c.loop-block.invariant.wrote c.in_ok-write_block.ensures;
  counts = omega (arith, c.loop-block.invariant.counts);
}
