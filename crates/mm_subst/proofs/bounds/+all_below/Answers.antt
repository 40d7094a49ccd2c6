use Rattle.std.proofs.Common.{◌≡◌, ◌<◌, ◌≤◌, length, get_or, sym, ap, ◌∙◌, ℕ, refl, subst as cast, arith}
use Rattle.std.proofs.lemmas.Bool.{false≢true}
use Rattle.std.proofs.lemmas.List.Elements.{All-more}
use Rattle.mm_terms.specs.declared.ty_head.TyHead.TheVariants.{Param}
use Rattle.mm_terms.specs.Tree.{head_of, children_of}
use Rattle.mm_terms.specs.Substitution.{ParamsBelow, ParamsBelow-param}
use Rattle.mm_subst.proofs.ParamLemmas.{child_below, below_by_parts, same_param, all_seen}
use Rattle.mm_subst.proofs.bounds.+all_below.Goals.{in-Param+else-place-bound, in_default}
use Rattle.mm_subst.proofs.bounds.+all_below.Goals as goal

pub loop-child-preserved : goal.loop-child-preserved
loop-child-preserved t c =
    let are = c.as_slice-child-items.ensures in
    let within : c.loop-child.child-index < length (children_of c.args.tree.now) = cast (λ list. c.loop-child.child-index < length list) are c.loop-child-test.true in
    let is = c.child-item.is ∙ ap (λ list. get_or list c.loop-child.child-index c.child-item.result) are in
    let here = cast (ParamsBelow c.args.bound) is (c.all_below.ensures.0 c.if-not-all_below.false) in
    All-more (ParamsBelow c.args.bound) (children_of c.args.tree.now) c.loop-child.child-index c.child-item.result within c.loop-child.invariant here

pub returns : goal.returns
returns t c =
    let ended = cast (λ list. length list ≤ c.loop-child.child-index) c.as_slice-child-items.ensures c.loop-child-test.false in
    let each = all_seen c.args.bound (children_of c.args.tree.now) c.loop-child.child-index ended c.loop-child.invariant in
    let own : (i : ℕ) → head_of c.args.tree.now ≡ Param i → i < c.args.bound =
    elim c.match-tree.branch [
      | in-Param+else-place-bound w ↦ λ i is. same_param (head_of c.args.tree.now) c.args.bound i w.in-Param.place is w.in-Param.is w.if-place-bound.false
      | in_default w ↦ λ i is. absurd (w.in_default.not-Param i is)
    ] in
    (λ _. below_by_parts c.args.bound c.args.tree.now own each, λ _. refl)

pub returns-then-place-bound : goal.returns-then-place-bound
returns-then-place-bound t c =
    (λ h. absurd (false≢true h), λ below. absurd (let under = ParamsBelow-param c.args.bound c.args.tree.now c.in-Param.place c.in-Param.is below in omega (arith, c.if-place-bound.true)))

pub returns-then-not-all_below : goal.returns-then-not-all_below
returns-then-not-all_below t c =
    let are = c.as_slice-child-items.ensures in
    let within : c.loop-child.child-index < length (children_of c.args.tree.now) = cast (λ list. c.loop-child.child-index < length list) are c.loop-child-test.true in
    let is = c.child-item.is ∙ ap (λ list. get_or list c.loop-child.child-index c.child-item.result) are in (
      λ h. absurd (false≢true h),
      λ below.
          absurd (false≢true (sym c.if-not-all_below.true ∙ c.all_below.ensures.1 (child_below c.args.bound c.args.tree.now c.child-item.result c.loop-child.child-index within is below))),
    )
