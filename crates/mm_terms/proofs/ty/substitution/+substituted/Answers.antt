use Rattle.std.proofs.Common.{◌≡◌, ◌∙◌, ◌<◌, ◌≤◌, length, get_or, sym, ap, subst as cast, arith}
use Rattle.std.specs.Prelude.{All, IfOk}
use Rattle.std.proofs.lemmas.Grind.{common_steps}
use Rattle.std.proofs.lemmas.List.Elements.{All-push}
use Rattle.mm_terms.specs.Formed.{IsFormed, IsFormed-children}
use Rattle.mm_terms.specs.Tree.{node, head_of, children_of}
use Rattle.mm_terms.proofs.PutLemmas.{given, kept, kept_formed, all_put}
use Rattle.mm_terms.proofs.ty.substitution.+substituted.Goals as goal

pub returns-in-Some-clause-value : goal.returns-in-Some-clause-value
returns-in-Some-clause-value t c =
    let is = given c.args.args.now c.args.tree.now c.in-Some.arg.now c.in-Some.ensures in
    cast (λ z. IfOk c.duplicate.result (λ t. t ≡ z)) (c.arg.view_is ∙ sym is) c.duplicate.ensures

pub loop-child-preserved : goal.loop-child-preserved
loop-child-preserved t c =
    let all = children_of c.args.tree.now in
    let are = c.as_slice-child-items.ensures in
    let within : c.loop-child.child-index < length all = cast (λ list. c.loop-child.child-index < length list) are c.loop-child-test.true in
    let is = c.child-item.is ∙ ap (λ list. get_or list c.loop-child.child-index c.child-item.result) are in
    let made = c.loop-child.invariant.made in
    record {
      made = grind (arith, common_steps);
      formed = λ formed.
          let child : IsFormed c.child-item.result = cast IsFormed (sym is) (IsFormed-children c.args.tree.now formed c.loop-child.child-index c.child-item.result within) in
          rw c.in_ok-push.ensures.items (All-push IsFormed c.loop-child.children.items c.in_ok-substituted.field-0 (c.loop-child.invariant.formed formed) (c.in_ok-substituted.ensures.formed child));
    }

pub returns-clause-value : goal.returns-clause-value
returns-clause-value t c =
    let ended = cast (λ list. length list ≤ c.loop-child.child-index) c.as_slice-child-items.ensures c.loop-child-test.false in
    let made = c.from_vec.ensures ∙ all_put c.args.args.now c.loop-child.children.items (children_of c.args.tree.now) c.loop-child.child-index ended c.loop-child.invariant.made in
    ap (node (head_of c.args.tree.now)) made ∙ sym (kept c.args.args.now c.args.tree.now c.in_default.ensures)

pub returns-clause-formed : goal.returns-clause-formed
returns-clause-formed t c =
    let ended = cast (λ list. length list ≤ c.loop-child.child-index) c.as_slice-child-items.ensures c.loop-child-test.false in
    let made = all_put c.args.args.now c.loop-child.children.items (children_of c.args.tree.now) c.loop-child.child-index ended c.loop-child.invariant.made in
    λ formed. kept_formed c.args.args.now c.args.tree.now c.from_vec.result (c.from_vec.ensures ∙ made) formed (cast (All IsFormed) (sym c.from_vec.ensures) (c.loop-child.invariant.formed formed))
