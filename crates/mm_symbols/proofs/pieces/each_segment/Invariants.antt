use Rattle.std.proofs.Common.{◌≡◌, ◌-◌, length}
use Rattle.mm_symbols.specs.Reading.{segment_in, each_in}
use Rattle.mm_symbols.proofs.Loops.{with_prefix}
use Rattle.mm_symbols.proofs.pieces.each_segment.Given as goal

abbrev pub invariant-each : goal.invariant-each
invariant-each l = each_in segment_in (length l.bytes) l.bytes ≡ with_prefix l.segments (each_in segment_in (length l.bytes - l.place) l.rest)
