use Rattle.std.proofs.Common.{◌≡◌, map, take}
use Rattle.mm_load_plain.specs.Names.{look_up}
use Rattle.mm_load_plain.specs.Meaning.{block_of}
use Rattle.mm_load_plain.proofs.bodies.load_blocks.Given as goal

abbrev pub invariant-loop-block : goal.invariant-loop-block
invariant-loop-block l = l.loaded ≡ map (block_of (look_up l.paths) (look_up l.scope)) (take l.block-index l.blocks)
