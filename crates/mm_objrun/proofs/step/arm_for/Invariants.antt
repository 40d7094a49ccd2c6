use Rattle.std.proofs.Common.{◌≡◌, drop}
use Rattle.mm_machines.specs.Forms.{arm_for}
use Rattle.mm_objrun.proofs.step.arm_for.Given as goal

-- the arms before have another number
abbrev pub invariant-loop-arm : goal.invariant-loop-arm
invariant-loop-arm l = arm_for l.n (drop l.arm-index l.arms) l.other ≡ arm_for l.n l.arms l.other
