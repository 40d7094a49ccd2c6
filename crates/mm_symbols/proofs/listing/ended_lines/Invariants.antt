use Rattle.std.proofs.Common.{◌≡◌, map, take}
use Rattle.mm_symbols.specs.Listing.{ended}
use Rattle.mm_symbols.proofs.listing.ended_lines.Given as goal

abbrev pub invariant-loop-line : goal.invariant-loop-line
invariant-loop-line l = l.output.items ≡ ended (map (λ v. v.items) (take l.line-index l.lines))
