use Rattle.std.proofs.Common.{◌∙◌, ◌<◌, sym, ap, subst, length}
use Rattle.mm_terms.specs.Formed.{IsType}
use Rattle.mm_terms.specs.Length.{length_of}
use Rattle.mm_terms.specs.Tree.{children_of}
use Rattle.mm_terms.proofs.TypeLemmas.{child_is}
use Rattle.mm_terms.proofs.ty.Ty.children.Goals as goal

pub length-length-requires : goal.length-length-requires
length-length-requires c =
    let within : c.loop-child.child-index < length (children_of c.self.inside.tree) = subst (λ list. c.loop-child.child-index < length list) c.as_slice-child-items.ensures c.loop-child-test.true in
    (child_is c.self.inside.tree c.child-item.result c.as_slice-child-items.result.now c.loop-child.child-index c.as_slice-child-items.ensures within c.child-item.is c.self.invariant.0).short

pub invariant_of-push : goal.invariant_of-push
invariant_of-push c =
    let within : c.loop-child.child-index < length (children_of c.self.inside.tree) = subst (λ list. c.loop-child.child-index < length list) c.as_slice-child-items.ensures c.loop-child-test.true in
    let child = child_is c.self.inside.tree c.child-item.result c.as_slice-child-items.result.now c.loop-child.child-index c.as_slice-child-items.ensures within c.child-item.is c.self.invariant.0 in
    (subst IsType (sym c.in_ok-tree.ensures) child, c.length-length.ensures ∙ ap length_of (sym c.in_ok-tree.ensures))
