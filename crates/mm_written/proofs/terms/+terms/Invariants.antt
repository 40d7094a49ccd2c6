use Rattle.std.proofs.Common.{◌≡◌, true, take}
use Rattle.std.specs.List.{list_all}
use Rattle.mm_written.specs.Terms.{written_term}
use Rattle.mm_written.proofs.terms.+terms.Given as goal

abbrev pub invariant-each_term-loop-term : goal.invariant-each_term-loop-term
invariant-each_term-loop-term l = list_all written_term (take l.term-index l.terms) ≡ true
