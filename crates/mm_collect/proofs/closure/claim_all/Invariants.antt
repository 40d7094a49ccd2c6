use Rattle.std.proofs.Common.{◌≡◌, ◌≤◌, ◌++◌, length, All, Contains}
use Rattle.std.specs.Vec.Iter.{into_iter_items}
use Rattle.indexmap.specs.IndexSet.{insert_all}
use Rattle.mm_terms.specs.Same.{same_item}
use Rattle.mm_collect.proofs.closure.claim_all.Given as goal

abbrev pub invariant-loop-item : goal.invariant-loop-item
invariant-loop-item l =
    (goal.iterator-loop-item).can_next l.item-iterator
    × (goal.iterator-loop-item).is_finite l.item-iterator
    × (length l.found.keys ≤ l.limit)
    × (insert_all same_item l.found.keys (into_iter_items l.item-iterator) ≡ insert_all same_item l.initial.found.keys l.fn.items.items)
    × All (Contains (l.initial.found.keys ++ l.fn.items.items)) l.found.keys
    × All (Contains (l.initial.found.keys ++ l.fn.items.items)) (into_iter_items l.item-iterator)
