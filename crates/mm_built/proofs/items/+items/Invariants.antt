use Rattle.std.proofs.Common.{◌≡◌, true, take}
use Rattle.std.specs.List.{list_all}
use Rattle.mm_built.specs.Built.{built_item}
use Rattle.mm_built.proofs.items.+items.Given as goal

abbrev pub invariant-built_items-loop-item : goal.invariant-built_items-loop-item
invariant-built_items-loop-item l = list_all built_item (take l.item-index l.items) ≡ true
