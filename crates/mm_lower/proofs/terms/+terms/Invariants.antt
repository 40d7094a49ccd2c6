use Rattle.std.proofs.Common.{◌≡◌, map, take}
use Rattle.mm_lower.specs.Seen.{params, paths}
use Rattle.mm_lower.specs.Terms.{term_of}
use Rattle.mm_lower.proofs.terms.+terms.Given as goal

abbrev pub invariant-lower_terms-loop-term : goal.invariant-lower_terms-loop-term
invariant-lower_terms-loop-term l = l.out ≡ map (term_of (paths l.names) (params l.names)) (take l.term-index l.terms)
