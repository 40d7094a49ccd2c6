use Rattle.std.proofs.Common.{◌≡◌, map, length, sym, ◌∙◌, ap, arith}
use Rattle.std.proofs.lemmas.List.{take_all}
use Rattle.std.proofs.lemmas.Result.{IfOk-weaker}
use Rattle.mm_terms.specs.Tree.{node}
use Rattle.mm_load_plain.specs.Names.{look_up}
use Rattle.mm_load_plain.specs.Meaning.{type_of}
use Rattle.mm_definitions.specs.Trees.{children_of}
use Rattle.mm_load_plain.proofs.WrittenLemmas.{type_of-parts}
use Rattle.mm_load_plain.proofs.types.+load_type.Goals as goal

pub returns : goal.returns
returns t c =
    let scope = look_up c.args.scope.now in
    let ty = c.args.ty.now in
    let children : c.loop-child.children.items ≡ map (type_of scope) (children_of ty) = c.loop-child.invariant ∙ ap (map (type_of scope)) (take_all c.loop-child.child-index (children_of ty) (omega (arith, ap length c.as_slice-child-items.ensures))) in
    IfOk-weaker c.from_children.result _ _ (λ made h. h ∙ ap (node c.load_head-head.result) children ∙ ap (λ head. node head (map (type_of scope) (children_of ty))) c.load_head-head.ensures ∙ sym (type_of-parts scope ty)) c.from_children.ensures
