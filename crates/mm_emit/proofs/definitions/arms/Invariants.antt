use Rattle.std.proofs.Common.{◌≡◌, take}
use Rattle.std.specs.Prelude.{All}
use Rattle.mm_emit.specs.Numbers.{FitsArm}
use Rattle.mm_emit.proofs.definitions.arms.Given as goal

abbrev pub invariant-loop-arm : goal.invariant-loop-arm
invariant-loop-arm l = (l.made ≡ take l.arm-index l.from) × All FitsArm l.made
