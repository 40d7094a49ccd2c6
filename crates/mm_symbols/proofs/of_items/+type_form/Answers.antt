use Rattle.std.proofs.Common.{◌≡◌, ◌≤◌, ◌++◌, ◌∙◌, length, map, sym, ap, subst, append-nil}
use Rattle.std.proofs.lemmas.List.{drop_all}
use Rattle.mm_terms.specs.Tree.{head_of, children_of}
use Rattle.mm_symbols.specs.ItemForms.{head_form, type_form}
use Rattle.mm_symbols.proofs.ItemLemmas.{type_form-parts, node_same}
use Rattle.mm_symbols.proofs.of_items.+type_form.Goals as goal

pub returns : goal.returns
returns t c =
    let p = c.args.p.now in
    let tree = c.args.tree.now in
    let i = c.loop-child.child-index in
    let ended : length (children_of tree) ≤ i = subst (λ list. length list ≤ i) c.as_slice-child-items.ensures c.loop-child-test.false in
    let whole : c.loop-child.children.items ≡ map (type_form p) (children_of tree) =
    sym (append-nil c.loop-child.children.items) ∙ sym (ap (λ list. c.loop-child.children.items ++ map (type_form p) list) (drop_all i (children_of tree) ended)) ∙ c.loop-child.invariant in
    node_same c.in_ok-head.head (head_form p (head_of tree)) c.from_vec.result (map (type_form p) (children_of tree)) c.in_ok-head.ensures (c.from_vec.ensures ∙ whole) ∙ sym (type_form-parts p tree)
