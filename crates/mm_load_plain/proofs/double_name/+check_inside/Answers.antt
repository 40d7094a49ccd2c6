use Rattle.std.proofs.Common.{◌≡◌, ◌<◌, Ok, Err, length, map, get_or, ◌∙◌, ap, arith}
use Rattle.std.proofs.lemmas.Result.{err_from_is_err_and}
use Rattle.mm_load_plain.specs.Rules.{again, repeated_in, member_of, double_in_items}
use Rattle.mm_definitions.specs.Trees.{items_in}
use Rattle.mm_ast.specs.declared.items.Item.TheViews.{out-Item}
use Rattle.mm_load_plain.specs.declared.rule.Rule.TheVariants.{DoubleName}
use Rattle.mm_load_plain.proofs.AskingLemmas.{reports_here, reports_next, handed}
use Rattle.mm_load_plain.proofs.ItemLemmas.{reports_inside}
use Rattle.mm_load_plain.proofs.MemberLemmas.{names_more, members_kept, members_fault, members_all}
use Rattle.mm_load_plain.specs.WrittenItem.{name_of}
use Rattle.mm_load_plain.proofs.double_name.+check_inside.Goals as goal

pub returns-in_err-check_form : goal.returns-in_err-check_form
returns-in_err-check_form t c =
    let e = c.in_err-check_form.field-0.0 in
    handed DoubleName (member_of c.args.item.now).inside c.from_residual.result e (err_from_is_err_and c.from_residual.result c.from_residual.ensures.1)
    (reports_inside DoubleName c.args.item.now (Err e) (reports_here DoubleName (repeated_in (out-Item c.args.item.now).form) (double_in_items (items_in c.args.item.now)) e c.in_err-check_form.ensures))

pub returns-in_err-check_item_name : goal.returns-in_err-check_item_name
returns-in_err-check_item_name t c =
    let items = (items_in c.args.item.now) in
    let i = c.loop-inner.inner-index in
    let x = c.inner-item.result in
    let keys = map (λ k. k.now) c.loop-inner.seen.keys in
    let within : i < length items = omega (arith, c.loop-inner-test.true, ap length c.as_slice-inner-items.ensures) in
    let at : x ≡ get_or items i x = c.inner-item.is ∙ ap (λ l. get_or l i x) c.as_slice-inner-items.ensures in
    let e = c.in_err-check_item_name.field-0.0 in
    let reported = reports_here DoubleName (again keys (name_of x).text (name_of x).line) (member_of x).inside e c.in_err-check_item_name.ensures.answer in
    handed DoubleName (member_of c.args.item.now).inside c.from_residual-in_err-check_item_name.result e (err_from_is_err_and c.from_residual-in_err-check_item_name.result c.from_residual-in_err-check_item_name.ensures.1)
    (reports_inside DoubleName c.args.item.now (Err e) (reports_next DoubleName (repeated_in (out-Item c.args.item.now).form) (double_in_items items) tt (Err e) c.in_ok-check_form.ensures (members_fault items i x within at keys e c.loop-inner.invariant.0 c.loop-inner.invariant.1 reported)))

pub returns-in_err-check_inside : goal.returns-in_err-check_inside
returns-in_err-check_inside t c =
    let items = (items_in c.args.item.now) in
    let i = c.loop-inner.inner-index in
    let x = c.inner-item.result in
    let keys = map (λ k. k.now) c.loop-inner.seen.keys in
    let within : i < length items = omega (arith, c.loop-inner-test.true, ap length c.as_slice-inner-items.ensures) in
    let at : x ≡ get_or items i x = c.inner-item.is ∙ ap (λ l. get_or l i x) c.as_slice-inner-items.ensures in
    let e = c.in_err-check_inside.field-0.0 in
    let name_reported = c.in_ok-check_item_name.ensures.answer in
    let reported = reports_next DoubleName (again keys (name_of x).text (name_of x).line) (member_of x).inside tt (Err e) name_reported c.in_err-check_inside.ensures in
    handed DoubleName (member_of c.args.item.now).inside c.from_residual-in_err-check_inside.result e (err_from_is_err_and c.from_residual-in_err-check_inside.result c.from_residual-in_err-check_inside.ensures.1)
    (reports_inside DoubleName c.args.item.now (Err e) (reports_next DoubleName (repeated_in (out-Item c.args.item.now).form) (double_in_items items) tt (Err e) c.in_ok-check_form.ensures (members_fault items i x within at keys e c.loop-inner.invariant.0 c.loop-inner.invariant.1 reported)))

pub loop-inner-preserved : goal.loop-inner-preserved
loop-inner-preserved t c =
    let items = (items_in c.args.item.now) in
    let i = c.loop-inner.inner-index in
    let x = c.inner-item.result in
    let keys = map (λ k. k.now) c.loop-inner.seen.keys in
    let within : i < length items = omega (arith, c.loop-inner-test.true, ap length c.as_slice-inner-items.ensures) in
    let at : x ≡ get_or items i x = c.inner-item.is ∙ ap (λ l. get_or l i x) c.as_slice-inner-items.ensures in
    let name_reported = c.in_ok-check_item_name.ensures.answer in
    let reported = reports_next DoubleName (again keys (name_of x).text (name_of x).line) (member_of x).inside tt (Ok tt) name_reported c.in_ok-check_inside.ensures in (
      names_more items i x within at keys _ c.loop-inner.invariant.0 c.in_ok-check_item_name.ensures.seen,
      members_kept items i x within at keys c.loop-inner.invariant.0 c.loop-inner.invariant.1 reported,
    )

pub returns : goal.returns
returns t c =
    let items = items_in c.args.item.now in
    reports_inside DoubleName c.args.item.now (Ok tt) (reports_next DoubleName (repeated_in (out-Item c.args.item.now).form) (double_in_items items) tt (Ok tt) c.in_ok-check_form.ensures
    (members_all items c.loop-inner.inner-index c.loop-inner.invariant.1 (omega (arith, ap length c.as_slice-inner-items.ensures))))
