use Rattle.std.proofs.Common.{◌≡◌, ◌++◌, take}
use Rattle.std.specs.Prelude.{flat_map}
use Rattle.mm_spell.specs.Listed.{kinds}
use Rattle.mm_print.specs.ItemTokens.{item_tokens}
use Rattle.mm_print.proofs.items.+items.Given as goal

abbrev pub invariant-write_items-loop-item : goal.invariant-write_items-loop-item
invariant-write_items-loop-item l = kinds l.out.items ≡ kinds l.fn.out.items ++ flat_map item_tokens (take l.item-index l.items)
