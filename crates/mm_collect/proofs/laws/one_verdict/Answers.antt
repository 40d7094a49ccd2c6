use Rattle.mm_plain.specs.Roots.{roots_of}
use Rattle.mm_plain.specs.Uses.{uses_of}
use Rattle.mm_collect.proofs.FindingLemmas.{one_list}
use Rattle.mm_collect.proofs.VerdictLemmas.{many_or_long, many_or_accepted, long_or_accepted, one_note_reported, one_listing}
use Rattle.mm_collect.proofs.laws.one_verdict.Goals as goal

pub returns-clause-many_or_long : goal.returns-clause-many_or_long
returns-clause-many_or_long c = many_or_long

pub returns-clause-many_or_accepted : goal.returns-clause-many_or_accepted
returns-clause-many_or_accepted c = many_or_accepted

pub returns-clause-long_or_accepted : goal.returns-clause-long_or_accepted
returns-clause-long_or_accepted c = long_or_accepted

pub returns-clause-one_note : goal.returns-clause-one_note
returns-clause-one_note c = one_note_reported

pub returns-clause-one_listing : goal.returns-clause-one_listing
returns-clause-one_listing c = one_listing

pub returns-clause-one_order : goal.returns-clause-one_order
returns-clause-one_order c p opts items others first second order same =
    one_list (roots_of p) (uses_of p opts.length) items others first.members second.members order same
