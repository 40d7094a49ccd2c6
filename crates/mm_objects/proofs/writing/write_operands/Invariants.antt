use Rattle.std.proofs.Common.{◌≡◌, ◌++◌, map, take}
use Rattle.mm_objects.specs.ObjectText.{operand_text}
use Rattle.mm_objects.specs.Written.{spaced}
use Rattle.mm_objects.proofs.writing.write_operands.Given as goal

abbrev pub invariant-loop-operand : goal.invariant-loop-operand
invariant-loop-operand l = l.out.items ≡ l.fn.out.items ++ spaced (map operand_text (take l.operand-index l.operands))
