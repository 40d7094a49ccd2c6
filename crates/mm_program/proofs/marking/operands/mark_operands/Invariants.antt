use Rattle.std.proofs.Common.{◌≡◌, drop}
use Rattle.std.specs.Prelude.{flat_map}
use Rattle.mm_program.specs.Marks.{marked}
use Rattle.mm_program.specs.Naming.{named_in_operand}
use Rattle.mm_program.proofs.marking.operands.mark_operands.Given as goal

-- what is marked, and what those that are left name, is all that they name
abbrev pub invariant-loop-operand : goal.invariant-loop-operand
invariant-loop-operand l = marked l.marks (flat_map named_in_operand (drop l.operand-index l.operands)) ≡ marked l.fn.marks (flat_map named_in_operand l.operands)
