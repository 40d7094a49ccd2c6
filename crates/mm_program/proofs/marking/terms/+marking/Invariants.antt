use Rattle.std.proofs.Common.{◌≡◌, drop}
use Rattle.std.specs.Prelude.{flat_map}
use Rattle.mm_program.specs.Marks.{marked}
use Rattle.mm_program.specs.Naming.{named_in_term}
use Rattle.mm_program.proofs.marking.terms.+marking.Given as goal

-- what is marked, and what those that are left name, is all that they name
abbrev pub invariant-mark_terms-loop-term : goal.invariant-mark_terms-loop-term
invariant-mark_terms-loop-term l = marked l.marks (flat_map named_in_term (drop l.term-index l.terms)) ≡ marked l.fn.marks (flat_map named_in_term l.terms)
