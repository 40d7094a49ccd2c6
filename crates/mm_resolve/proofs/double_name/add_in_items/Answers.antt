use Rattle.std.proofs.Common.{◌++◌, ◌∙◌, ap}
use Rattle.std.proofs.lemmas.List.{take_all}
use Rattle.std.specs.List.{flat_map}
use Rattle.mm_resolve.specs.Doubles.{member_of}
use Rattle.mm_resolve.proofs.DoubleItems.{in_items}
use Rattle.mm_resolve.proofs.double_name.add_in_items.Goals as goal

pub returns : goal.returns
returns c =
    c.loop-item.invariant
    ∙ ap (λ xs. c.add_item_names.new.lines ++ flat_map (λ item. (member_of item).inside) xs) (take_all c.loop-item.item-index c.args.items.now c.loop-item-test.false)
    ∙ in_items c.args.items.now c.args.lines.now c.add_item_names.new.lines c.in_ok-add_item_names.ensures
