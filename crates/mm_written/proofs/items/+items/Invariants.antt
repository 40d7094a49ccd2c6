use Rattle.std.proofs.Common.{◌≡◌, true, take}
use Rattle.std.specs.List.{list_all}
use Rattle.mm_written.specs.Items.{written_item}
use Rattle.mm_written.proofs.items.+items.Given as goal

abbrev pub invariant-each_item-loop-item : goal.invariant-each_item-loop-item
invariant-each_item-loop-item l = list_all written_item (take l.item-index l.items) ≡ true
