use Rattle.std.proofs.Common.{◌≡◌, drop}
use Rattle.std.specs.Prelude.{flat_map}
use Rattle.mm_program.specs.Marks.{marked}
use Rattle.mm_program.specs.Naming.{named_outside_in}
use Rattle.mm_program.proofs.marking.definitions.mark_definitions.Given as goal

-- what is marked, and what those that are left name, is all that they name
abbrev pub invariant-loop-part : goal.invariant-loop-part
invariant-loop-part l = marked l.marks (flat_map named_outside_in (drop l.part-index l.defs)) ≡ marked l.fn.marks (flat_map named_outside_in l.defs)
