use Rattle.std.proofs.Common.{◌≡◌, map, take}
use Rattle.mm_symbols.specs.Listing.{line_of}
use Rattle.mm_symbols.proofs.listing.lines.Given as goal

abbrev pub invariant-loop-item : goal.invariant-loop-item
invariant-loop-item l = map (λ v. v.items) l.lines.items ≡ map (line_of l.p) (take l.item-index l.items)
