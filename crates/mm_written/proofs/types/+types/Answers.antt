use Rattle.std.proofs.Common.{◌≡◌, ◌&&◌, IsTrue, get_or, drop, sym, ◌∙◌, ap, subst, arith}
use Rattle.std.specs.List.{list_all}
use Rattle.std.specs.Option.{SomeIff}
use Rattle.std.proofs.lemmas.List.{take_all, at_drop_all}
use Rattle.std.proofs.lemmas.List.Folds.{list_all_more}
use Rattle.mm_written.specs.Types.{formed, constructors, constructors_in, written_type}
use Rattle.mm_written.proofs.TypeLemmas.{Counted, not_taken, not_below, counted_above, constructors_in-drop, each_counted, written_type-is}
use Rattle.mm_written.proofs.types.+types.Goals as goal

pub counted-returns-then-not-takes : goal.counted-returns-then-not-takes
counted-returns-then-not-takes t c = not_taken c.args.ty.now c.as_slice-children.result.now c.as_slice-children.ensures (sym c.takes.ensures ∙ c.if-not-takes.true)

pub counted-returns-in_err-total : goal.counted-returns-in_err-total
counted-returns-in_err-total t c =
    let ty = c.args.ty.now in
    let none = c.in_err-total.ensures in
    subst (λ o. SomeIff o (IsTrue (written_type ty)) (constructors ty)) (sym c.from_residual.ensures) (not_below ty c.as_slice-children.result.now c.as_slice-children.ensures none)

pub counted-returns : goal.counted-returns
counted-returns t c =
    let some = c.in_ok-total.ensures in
    counted_above c.args.ty.now c.as_slice-children.result.now c.in_ok-total.field-0 c.checked_add.result c.as_slice-children.ensures (sym c.takes.ensures ∙ c.if-not-takes.false) some.0 some.1 c.checked_add.ensures

pub total-returns-in_err-counted : goal.total-returns-in_err-counted
total-returns-in_err-counted t c =
    let types = c.args.types.now in
    let none = c.in_err-counted.ensures in
    subst (λ o. SomeIff o (Counted types) (constructors_in types)) (sym c.from_residual.ensures) (λ counted. none (each_counted types c.loop-ty.ty-index c.ty-item.result c.loop-ty-test.true c.ty-item.is counted))

pub total-loop-ty-preserved : goal.total-loop-ty-preserved
total-loop-ty-preserved t c =
    let types = c.args.types.now in
    let i = c.loop-ty.ty-index in
    let ty = c.ty-item.result in
    let so_far = c.loop-ty.invariant in
    let here = c.in_ok-counted.ensures in
    let added = c.in_ok-total.ensures in (
      list_all_more formed types i ty c.loop-ty-test.true ∙ ap (λ b. b && formed (get_or types i ty)) so_far.0 ∙ ap formed (sym c.ty-item.is) ∙ (written_type-is ty here.0).0,
      omega (arith, so_far.1, added.1, here.1, constructors_in-drop types i ty c.loop-ty-test.true c.ty-item.is),
      omega (arith, added.0, added.1),
    )

pub total-returns : goal.total-returns
total-returns t c =
    let types = c.args.types.now in
    let i = c.loop-ty.ty-index in
    let so_far = c.loop-ty.invariant in
    let none_left : constructors_in (drop i types) ≡ 0 = at_drop_all constructors_in types i c.loop-ty-test.false in
    ((ap (list_all formed) (sym (take_all i types c.loop-ty-test.false)) ∙ so_far.0, omega (arith, so_far.1, so_far.2, none_left)), omega (arith, so_far.1, none_left))
