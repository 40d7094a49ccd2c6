use Rattle.std.proofs.Common.{[], ◌++◌, ◌∙◌, ap, length, arith}
use Rattle.std.proofs.lemmas.List.{take_all}
use Rattle.std.specs.List.{flat_map, filter_map}
use Rattle.mm_ast.specs.declared.items.Item.TheViews.{out-Item}
use Rattle.mm_resolve.specs.Doubles.{item_name, repeated, member_of}
use Rattle.mm_resolve.proofs.DoubleItems.{in_items, in_item}
use Rattle.mm_resolve.proofs.double_name.+add_inside.Goals as goal

pub returns : goal.returns
returns t c =
    let items = (out-Item c.args.item.now).items in
    c.loop-inner.invariant
    ∙ ap (λ xs. c.add_item_names.new.lines ++ flat_map (λ item. (member_of item).inside) xs) (take_all c.loop-inner.inner-index items (omega (arith, c.loop-inner-test.false, ap length c.as_slice-inner-items.ensures)))
    ∙ in_items items c.add_here.new.lines c.add_item_names.new.lines (c.in_ok-add_item_names.ensures ∙ ap (λ xs. c.add_here.new.lines ++ repeated [] (filter_map item_name xs)) c.as_slice.ensures)
    ∙ in_item c.args.item.now c.args.lines.now c.add_here.new.lines c.in_ok-add_here.ensures
