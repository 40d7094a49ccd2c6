use Rattle.std.proofs.Common.{◌≡◌, map, take}
use Rattle.mm_lower.specs.Bodies.{arm_of}
use Rattle.mm_lower.proofs.bodies.lower_arms.Given as goal

abbrev pub invariant-loop-arm : goal.invariant-loop-arm
invariant-loop-arm l = l.out ≡ map arm_of (take l.arm-index l.arms)
