use Rattle.std.proofs.Common.{◌≡◌, ◌++◌, take}
use Rattle.mm_mentions.specs.ItemMentions.{items_mentions}
use Rattle.mm_mentions.proofs.items.+items.Given as goal

abbrev pub invariant-mention_items-loop-item : goal.invariant-mention_items-loop-item
invariant-mention_items-loop-item l = l.out.items ≡ l.fn.out.items ++ items_mentions l.krate (take l.item-index l.items)
