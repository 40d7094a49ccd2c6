use Rattle.std.proofs.Common.{◌≡◌, ◌<◌, Ok, Err, length, map, get_or, arith}
use Rattle.std.proofs.lemmas.Result.{err_from_is_err_and}
use Rattle.mm_load_plain.specs.Rules.{again, member_of, double_in_items}
use Rattle.mm_load_plain.specs.declared.rule.Rule.TheVariants.{DoubleName}
use Rattle.mm_load_plain.proofs.AskingLemmas.{reports_here, reports_next, handed}
use Rattle.mm_load_plain.proofs.MemberLemmas.{names_more, members_kept, members_fault, members_all}
use Rattle.mm_load_plain.specs.WrittenItem.{name_of}
use Rattle.mm_load_plain.proofs.double_name.check.Goals as goal

pub returns-in_err-check_item_name : goal.returns-in_err-check_item_name
returns-in_err-check_item_name c =
    let items = c.args.items.now in
    let i = c.loop-item.item-index in
    let x = c.item-item.result in
    let keys = map (λ k. k.now) c.loop-item.seen.keys in
    let within : i < length items = c.loop-item-test.true in
    let at : x ≡ get_or items i x = c.item-item.is in
    let e = c.in_err-check_item_name.field-0.0 in
    let reported = reports_here DoubleName (again keys (name_of x).text (name_of x).line) (member_of x).inside e c.in_err-check_item_name.ensures.answer in
    handed DoubleName (double_in_items items) c.from_residual.result e (err_from_is_err_and c.from_residual.result c.from_residual.ensures.1) (members_fault items i x within at keys e c.loop-item.invariant.0 c.loop-item.invariant.1 reported)

pub returns-in_err-check_inside : goal.returns-in_err-check_inside
returns-in_err-check_inside c =
    let items = c.args.items.now in
    let i = c.loop-item.item-index in
    let x = c.item-item.result in
    let keys = map (λ k. k.now) c.loop-item.seen.keys in
    let within : i < length items = c.loop-item-test.true in
    let at : x ≡ get_or items i x = c.item-item.is in
    let e = c.in_err-check_inside.field-0.0 in
    let name_reported = c.in_ok-check_item_name.ensures.answer in
    let reported = reports_next DoubleName (again keys (name_of x).text (name_of x).line) (member_of x).inside tt (Err e) name_reported c.in_err-check_inside.ensures in
    handed DoubleName (double_in_items items) c.from_residual-in_err-check_inside.result e (err_from_is_err_and c.from_residual-in_err-check_inside.result c.from_residual-in_err-check_inside.ensures.1) (members_fault items i x within at keys e c.loop-item.invariant.0 c.loop-item.invariant.1 reported)

pub loop-item-preserved : goal.loop-item-preserved
loop-item-preserved c =
    let items = c.args.items.now in
    let i = c.loop-item.item-index in
    let x = c.item-item.result in
    let keys = map (λ k. k.now) c.loop-item.seen.keys in
    let within : i < length items = c.loop-item-test.true in
    let at : x ≡ get_or items i x = c.item-item.is in
    let name_reported = c.in_ok-check_item_name.ensures.answer in
    let reported = reports_next DoubleName (again keys (name_of x).text (name_of x).line) (member_of x).inside tt (Ok tt) name_reported c.in_ok-check_inside.ensures in (
      names_more items i x within at keys _ c.loop-item.invariant.0 c.in_ok-check_item_name.ensures.seen,
      members_kept items i x within at keys c.loop-item.invariant.0 c.loop-item.invariant.1 reported,
    )

pub returns : goal.returns
returns c = members_all c.args.items.now c.loop-item.item-index c.loop-item.invariant.1 (omega arith)
