-- The forms of types by their parts.
use Rattle.std.proofs.Common.{◌≡◌, List, map}
use Rattle.mm_terms.specs.declared.ty_head.TyHead.{TyHead}
use Rattle.mm_terms.specs.declared.tree.Tree.{Tree}
use Rattle.mm_terms.specs.Tree.{node, head_of, children_of, tree_fold-parts, tree_fold-node}
use Rattle.mm_plain.specs.declared.program.Program.{Program}
use Rattle.mm_symbols.specs.declared.form.SymHead.{SymHead}
use Rattle.mm_symbols.specs.declared.form.SymType.{SymType}
use Rattle.mm_symbols.specs.SymTree.{sym_node}
use Rattle.mm_symbols.specs.ItemForms.{head_form, type_form}

pub type_form-parts : (p : Program) (t : Tree) → type_form p t ≡ sym_node (head_form p (head_of t)) (map (type_form p) (children_of t))
unfolding type_form
type_form-parts p t = tree_fold-parts (λ head children. sym_node (head_form p head) children) t

pub type_form-node : (p : Program) (head : TyHead) (children : List Tree) → type_form p (node head children) ≡ sym_node (head_form p head) (map (type_form p) children)
unfolding type_form
type_form-node p head children = tree_fold-node (λ head children. sym_node (head_form p head) children) head children

pub node_same : (h g : SymHead) (xs ys : List SymType) → h ≡ g → xs ≡ ys → sym_node h xs ≡ sym_node g ys
node_same h g xs ys e f = λ i. sym_node (e i) (f i)
