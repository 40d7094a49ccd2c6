use Rattle.std.proofs.Common.{[], ◌++◌, take, sym, ◌∙◌, ap}
use Rattle.std.proofs.lemmas.List.{append-nil, take_all}
use Rattle.std.specs.List.{filter_map, list_any}
use Rattle.std.specs.Str.{bytes_eq}
use Rattle.mm_resolve.specs.Doubles.{item_name, repeated, texts_of}
use Rattle.mm_resolve.proofs.DoubleLemmas.{none_held}
use Rattle.mm_resolve.proofs.DoubleItems.{item_repeated, item_texts}
use Rattle.mm_resolve.proofs.item_names.add_item_names.Goals as goal

pub loop-item-init : goal.loop-item-init
loop-item-init c = (sym (append-nil c.args.lines.now), none_held (λ k. k.now) c.new-seen.result.keys c.new-seen.ensures.empty)

pub loop-item-preserved : goal.loop-item-preserved
loop-item-preserved c =
    let items = c.args.items.now in
    let i = c.loop-item.item-index in
    let x = c.item-item.result in
    let texts = texts_of (filter_map item_name (take i items)) in
    let outside = none_held (λ k. k.now) c.new-outside.result.keys c.new-outside.ensures.empty in (
      item_repeated items i x c.loop-item-test.true c.item-item.is c.args.lines.now c.loop-item.lines c.add_item_name.new.lines c.loop-item.invariant.0 (c.in_ok-add_item_name.ensures.lines texts outside c.loop-item.invariant.1),
      λ q. c.in_ok-add_item_name.ensures.seen texts c.loop-item.invariant.1 q ∙ ap (list_any (bytes_eq q)) (item_texts items i x c.loop-item-test.true c.item-item.is),
    )

pub returns : goal.returns
returns c = c.loop-item.invariant.0 ∙ ap (λ xs. c.args.lines.now ++ repeated [] (filter_map item_name xs)) (take_all c.loop-item.item-index c.args.items.now c.loop-item-test.false)
