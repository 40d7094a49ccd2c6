use Rattle.std.proofs.Common.{[]}
use Rattle.mm_lower.specs.Bodies.{block_of}
use Rattle.mm_lower.specs.Seen.{params, paths}
use Rattle.mm_lower.proofs.TypeLemmas.{mapped_more}
use Rattle.mm_lower.proofs.bodies.lower_blocks.Goals as goal

pub loop-block-preserved : goal.loop-block-preserved
loop-block-preserved c =
    let f = block_of (paths c.args.names.now) (params c.args.names.now) in
    mapped_more f c.args.blocks.now c.loop-block.block-index c.block-item.result c.in_ok-lower_block.field-0 [] c.loop-block.out.items c.push.new.self.items
    c.loop-block-test.true c.block-item.is c.in_ok-lower_block.ensures c.loop-block.invariant c.in_ok-push.ensures.items
