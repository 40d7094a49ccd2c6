use Rattle.std.proofs.Common.{ℕ, arith}
use Rattle.std.proofs.lemmas.List.{length-take}
use Rattle.mm_outside.proofs.Bytes.{gave_more, gave_within}
use Rattle.mm_outside.proofs.whole.read_all.Goals as goal

pub returns-then-count-limit-clause-long : goal.returns-then-count-limit-clause-long
returns-then-count-limit-clause-long g c _ =
    gave_more _ c.loop-bytes.bytes.items c.read.new.buf c.in_ok-count.count _ _ _ c.loop-bytes.invariant.took c.in_ok-count.ensures.bytes.0
    c.in_ok-count.ensures.bound.0
    (omega (arith, c.in_ok-count.ensures.bound.0, length-take {A = ℕ}))

pub returns-in_err-extend_from_slice-clause-short :
    goal.returns-in_err-extend_from_slice-clause-short
returns-in_err-extend_from_slice-clause-short g c _ =
    gave_within _ c.loop-bytes.bytes.items c.read.new.buf c.in_ok-count.count _ _ _ c.loop-bytes.invariant.took c.in_ok-count.ensures.bytes.0
    c.in_ok-count.ensures.bound.0
    (omega (arith, c.in_ok-count.ensures.bound.0))
