use Rattle.std.proofs.Common.{◌≡◌, [], ◌++◌, take}
use Rattle.std.specs.List.{filter_map}
use Rattle.mm_resolve.specs.Doubles.{item_name, repeated, texts_of, Holds}
use Rattle.mm_resolve.proofs.item_names.add_item_names.Given as goal

abbrev pub invariant-loop-item : goal.invariant-loop-item
invariant-loop-item l =
    (l.lines ≡ l.initial.lines ++ repeated [] (filter_map item_name (take l.item-index l.items)))
    × Holds l.seen (texts_of (filter_map item_name (take l.item-index l.items)))
