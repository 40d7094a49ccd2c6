use Rattle.std.proofs.Common.{◌≡◌, drop}
use Rattle.std.specs.Prelude.{flat_map}
use Rattle.mm_program.specs.Marks.{marked}
use Rattle.mm_program.specs.Naming.{named_in_types}
use Rattle.mm_program.proofs.marking.definitions.mark_variants.Given as goal

-- what is marked, and what those that are left name, is all that they name
abbrev pub invariant-loop-fields : goal.invariant-loop-fields
invariant-loop-fields l = marked l.marks (flat_map named_in_types (drop l.fields-index l.variants)) ≡ marked l.fn.marks (flat_map named_in_types l.variants)
