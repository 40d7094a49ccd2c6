use Rattle.std.proofs.Common.{◌≡◌, map, take}
use Rattle.std.specs.Prelude.{All}
use Rattle.mm_objects.specs.Emitted.{block_of}
use Rattle.mm_emit.specs.Numbers.{FitsBlock}
use Rattle.mm_emit.proofs.definitions.blocks.Given as goal

abbrev pub invariant-loop-one : goal.invariant-loop-one
invariant-loop-one l = (l.made ≡ map (block_of l.p l.args) (take l.one-index l.from)) × All FitsBlock l.made
