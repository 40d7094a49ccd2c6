use Rattle.std.proofs.Common.{◌≡◌, ◌++◌, take}
use Rattle.std.specs.List.{flat_map}
use Rattle.mm_resolve.specs.Doubles.{member_of}
use Rattle.mm_resolve.proofs.double_name.add_in_items.Given as goal

abbrev pub invariant-loop-item : goal.invariant-loop-item
invariant-loop-item l = l.lines ≡ l.initial.lines ++ flat_map (λ item. (member_of item).inside) (take l.item-index l.items)
