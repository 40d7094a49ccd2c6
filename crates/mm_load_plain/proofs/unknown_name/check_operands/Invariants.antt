use Rattle.std.proofs.Common.{◌≡◌, [], take}
use Rattle.std.specs.List.{flat_map}
use Rattle.mm_load_plain.specs.Rules.{unknown_in_operand}
use Rattle.mm_load_plain.proofs.unknown_name.check_operands.Given as goal

abbrev pub invariant-loop-operand : goal.invariant-loop-operand
invariant-loop-operand l = flat_map (unknown_in_operand l.function) (take l.operand-index l.operands) ≡ []
