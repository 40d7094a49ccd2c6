use Rattle.std.proofs.Common.{◌≡◌, map, take}
use Rattle.std.specs.Prelude.{All}
use Rattle.mm_objects.specs.Emitted.{operand_of}
use Rattle.mm_emit.specs.Numbers.{FitsOperand}
use Rattle.mm_emit.proofs.bodies.operands.Given as goal

abbrev pub invariant-loop-one : goal.invariant-loop-one
invariant-loop-one l = (l.made ≡ map operand_of (take l.one-index l.from)) × All FitsOperand l.made
