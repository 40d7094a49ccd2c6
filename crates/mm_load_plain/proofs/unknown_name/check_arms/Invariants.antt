use Rattle.std.proofs.Common.{◌≡◌, [], take}
use Rattle.std.specs.List.{flat_map}
use Rattle.mm_load_plain.specs.Rules.{unknown_label}
use Rattle.mm_load_plain.proofs.unknown_name.check_arms.Given as goal

abbrev pub invariant-loop-arm : goal.invariant-loop-arm
invariant-loop-arm l = flat_map (λ arm. unknown_label l.function arm.label) (take l.arm-index l.arms) ≡ []
