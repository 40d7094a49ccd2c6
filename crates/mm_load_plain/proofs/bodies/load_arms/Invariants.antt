use Rattle.std.proofs.Common.{◌≡◌, map, take}
use Rattle.mm_load_plain.specs.Meaning.{arm_of}
use Rattle.mm_load_plain.proofs.bodies.load_arms.Given as goal

abbrev pub invariant-loop-arm : goal.invariant-loop-arm
invariant-loop-arm l = l.loaded ≡ map arm_of (take l.arm-index l.arms)
