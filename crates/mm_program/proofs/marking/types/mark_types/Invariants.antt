use Rattle.std.proofs.Common.{◌≡◌, drop}
use Rattle.mm_program.specs.Marks.{marked}
use Rattle.mm_program.specs.Naming.{named_in_types}
use Rattle.mm_program.proofs.marking.types.mark_types.Given as goal

-- what is marked, and what the types that are left name, is all that they name
abbrev pub invariant-loop-ty : goal.invariant-loop-ty
invariant-loop-ty l = marked l.marks (named_in_types (drop l.ty-index l.types)) ≡ marked l.fn.marks (named_in_types l.types)
