use Rattle.std.proofs.Common.{◌≡◌, ◌++◌, map, take}
use Rattle.mm_objects.specs.ObjectText.{arm_text}
use Rattle.mm_objects.specs.Written.{spaced}
use Rattle.mm_objects.proofs.writing.write_arms.Given as goal

abbrev pub invariant-loop-arm : goal.invariant-loop-arm
invariant-loop-arm l = l.out.items ≡ l.fn.out.items ++ spaced (map arm_text (take l.arm-index l.arms))
