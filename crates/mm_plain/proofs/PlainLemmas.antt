-- Types that name no definition, by their parts.
use Rattle.std.proofs.Common.{◌≡◌, List, length, get_or, sym, ◌∙◌, ap, subst, ⊎_elim}
use Rattle.std.specs.Prelude.{All}
use Rattle.std.proofs.lemmas.List.Elements.{All-same, All-map, All-get_or}
use Rattle.mm_terms.specs.declared.ty_head.TyHead.{TyHead}
use Rattle.mm_terms.specs.declared.tree.Tree.{Tree}
use Rattle.mm_terms.specs.Tree.{node, head_of, children_of, tree_ind, head_of-node, children_of-node, every-head, every-children, every-node}
use Rattle.mm_terms.specs.Substitution.{subst as put_in, subst_all, ParamsBelow, ParamsBelow-param, ParamsBelow-children, subst-param, subst-node, param_or_not}
use Rattle.mm_plain.specs.WellFormed.{NamesNone, NamesNoneHere, NamesNoDefinition}

pub plain-head : (t : Tree) → NamesNoDefinition t → NamesNone (head_of t)
unfolding NamesNoDefinition
plain-head = every-head NamesNoneHere

pub plain-children : (t : Tree) → NamesNoDefinition t → All NamesNoDefinition (children_of t)
unfolding NamesNoDefinition
plain-children = every-children NamesNoneHere

pub plain-node : (head : TyHead) (children : List Tree) → NamesNone head → All NamesNoDefinition children → NamesNoDefinition (node head children)
unfolding NamesNoDefinition
plain-node = every-node NamesNoneHere

-- arguments that name no definition bring none in
pub plain-subst : (args : List Tree) → All NamesNoDefinition args → (t : Tree) → NamesNoDefinition t → ParamsBelow (length args) t → NamesNoDefinition (put_in args t)
plain-subst args each_arg =
    tree_ind (λ t. NamesNoDefinition t → ParamsBelow (length args) t → NamesNoDefinition (put_in args t))
    (λ head children each plain below.
    let t : Tree = node head children in
    let parts : All NamesNoDefinition children = All-same NamesNoDefinition children (children_of t) (sym (children_of-node head children)) (plain-children t plain) in
    let belows : All (ParamsBelow (length args)) children = All-same (ParamsBelow (length args)) children (children_of t) (sym (children_of-node head children)) (ParamsBelow-children (length args) t below) in
    ⊎_elim
    (λ param.
    let within = ParamsBelow-param (length args) t param.0 (head_of-node head children ∙ param.1) below in
    let is : put_in args t ≡ get_or args param.0 t = ap (λ h. put_in args (node h children)) param.1 ∙ subst-param args param.0 children t within in
    subst NamesNoDefinition (sym is) (All-get_or NamesNoDefinition args param.0 t within each_arg))
    (λ other.
    subst NamesNoDefinition (sym (subst-node args head children other))
    (plain-node head (subst_all args children) (subst NamesNone (head_of-node head children) (plain-head t plain))
    (All-map NamesNoDefinition (put_in args) children (λ k d within. each k d within (parts k d within) (belows k d within)))))
    (param_or_not head))
