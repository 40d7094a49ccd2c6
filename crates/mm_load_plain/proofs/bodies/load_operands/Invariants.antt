use Rattle.std.proofs.Common.{◌≡◌, map, take}
use Rattle.mm_load_plain.specs.Meaning.{operand_of}
use Rattle.mm_load_plain.proofs.bodies.load_operands.Given as goal

abbrev pub invariant-loop-operand : goal.invariant-loop-operand
invariant-loop-operand l = l.loaded ≡ map operand_of (take l.operand-index l.operands)
