use Rattle.std.proofs.Common.{◌≡◌, drop}
use Rattle.std.specs.Prelude.{flat_map}
use Rattle.mm_program.specs.Marks.{marked}
use Rattle.mm_program.specs.Naming.{named_in_statement}
use Rattle.mm_program.proofs.marking.bodies.mark_statements.Given as goal

-- what is marked, and what those that are left name, is all that they name
abbrev pub invariant-loop-statement : goal.invariant-loop-statement
invariant-loop-statement l = marked l.marks (flat_map named_in_statement (drop l.statement-index l.statements)) ≡ marked l.fn.marks (flat_map named_in_statement l.statements)
