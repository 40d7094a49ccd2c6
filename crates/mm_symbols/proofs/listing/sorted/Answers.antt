use Rattle.std.proofs.Common.{map, subst, nat_cmp}
use Rattle.std.proofs.lemmas.List.Sorted.{IsPermutation-map}
use Rattle.std.specs.Cmp.Lexicographic.{slice_cmp}
use Rattle.std.specs.List.Sorted.{IsPermutation}
use Rattle.mm_symbols.proofs.SortedLines.{IsSorted-map}
use Rattle.mm_symbols.proofs.listing.sorted.Goals as goal

pub returns-clause-of_items : goal.returns-clause-of_items
returns-clause-of_items c = subst (λ ls. IsPermutation ls (map (λ l. l.items) c.sort.new.self.items)) c.in_ok-lines.ensures (IsPermutation-map (λ l. l.items) c.in_ok-lines.lines.items c.sort.new.self.items c.sort.ensures.permutation)

pub returns-clause-sorted : goal.returns-clause-sorted
returns-clause-sorted c = IsSorted-map (λ l. l.items) (slice_cmp nat_cmp) c.sort.new.self.items c.in_ok-sort.ensures.sorted
