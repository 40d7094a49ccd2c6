use Rattle.mm_definitions.specs.Placed.{item_placed}
use Rattle.mm_definitions.proofs.NumberLemmas.{added_each}
use Rattle.mm_definitions.proofs.defined.+items.Goals as goal

pub add_items-loop-item-preserved : goal.add_items-loop-item-preserved
add_items-loop-item-preserved t c =
    added_each (λ item. item_placed item c.args.prefix.now) c.args.items.now c.loop-item.item-index c.item-item.result c.loop-item.out c.add_item.new.out _ c.loop-item-test.true c.item-item.is c.in_ok-add_item.ensures c.loop-item.invariant
