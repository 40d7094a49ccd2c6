use Rattle.std.proofs.Common.{◌≡◌, take}
use Rattle.mm_lower.specs.Callees.{operands_of}
use Rattle.mm_lower.specs.Seen.{params, paths}
use Rattle.mm_lower.proofs.callees.lower_operands.Given as goal

abbrev pub invariant-loop-operand : goal.invariant-loop-operand
invariant-loop-operand l = l.out ≡ operands_of (paths l.names) (params l.names) (take l.operand-index l.operands)
