use Rattle.std.proofs.Common.{◌≡◌, map, take}
use Rattle.mm_lower.specs.Bodies.{block_of}
use Rattle.mm_lower.specs.Seen.{params, paths}
use Rattle.mm_lower.proofs.bodies.lower_blocks.Given as goal

abbrev pub invariant-loop-block : goal.invariant-loop-block
invariant-loop-block l = l.out.items ≡ map (block_of (paths l.names) (params l.names)) (take l.block-index l.blocks)
