use Rattle.std.proofs.Common.{◌≡◌, drop}
use Rattle.mm_definitions.specs.Numbering.{added}
use Rattle.mm_definitions.specs.Placed.{items_placed}
use Rattle.mm_definitions.proofs.defined.+items.Given as goal

-- what is found, with the items that are left, is all items
abbrev pub invariant-add_items-loop-item : goal.invariant-add_items-loop-item
invariant-add_items-loop-item l = added l.out (items_placed l.prefix (drop l.item-index l.items)) ≡ added l.fn.out (items_placed l.prefix l.items)
