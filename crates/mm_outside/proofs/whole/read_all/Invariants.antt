use Rattle.std.proofs.Common.{◌≡◌, ◌≤◌, ◌-◌, vec_len}
use Rattle.std.specs.Io.KnownBytes.{Consumes}
use Rattle.mm_outside.proofs.whole.read_all.Given as goal

-- the bytes so far are those that the source gave, no more than the limit, and no call has failed
abbrev pub invariant-loop-bytes : goal.invariant-loop-bytes
invariant-loop-bytes g l = record {
  fits : vec_len l.bytes ≤ l.limit;
  took : Consumes (g.S.Source.left l.fn.source) (g.S.Source.left l.source) l.bytes.items;
  kept : g.S.Source.faults l.source ≡ g.S.Source.faults l.fn.source;
}

abbrev pub decreases-loop-bytes : goal.decreases-loop-bytes
decreases-loop-bytes g l = l.limit - vec_len l.bytes
