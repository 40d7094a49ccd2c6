-- The order of finding: the roots, and then what each item uses, item by item.
use Rattle.std.specs.Prelude.{◌≡◌, List, [], ◌++◌, flat_map}
use Rattle.indexmap.specs.IndexSet.{insert_all}
use Rattle.mm_terms.specs.declared.item.Item.{Item}
use Rattle.mm_terms.specs.Same.{same_item}

-- each once, where it stands first
abbrev pub firsts : List Item → List Item
firsts xs = insert_all same_item [] xs

-- each item stands where it is first named: among the roots, or else in what the items use, one after another
abbrev pub AreInOrder : List Item → (Item → List Item) → List Item → Type 0
AreInOrder roots uses items = items ≡ firsts (roots ++ flat_map uses items)
