use Rattle.std.proofs.Common.{subst, sym, ◌∙◌}
use Rattle.mm_plain.specs.Notes.{IsLeast}
use Rattle.mm_collect.proofs.NoteLemmas.{least_first, least_second}
use Rattle.mm_collect.proofs.over.least_over.Goals as goal

pub returns-then-is_lt : goal.returns-then-is_lt
returns-then-is_lt c notes others first second =
    least_second notes others c.in-Some.one c.in-Some-other.other (subst (IsLeast notes) c.in-Some.is first) (subst (IsLeast others) c.in-Some-other.is second)
    c.compare.result c.compare.ensures (sym c.is_lt.ensures ∙ c.if-is_lt.true)

pub returns-else-is_lt : goal.returns-else-is_lt
returns-else-is_lt c notes others first second =
    least_first notes others c.in-Some.one c.in-Some-other.other (subst (IsLeast notes) c.in-Some.is first) (subst (IsLeast others) c.in-Some-other.is second)
    c.compare.result c.compare.ensures (sym c.is_lt.ensures ∙ c.if-is_lt.false)
