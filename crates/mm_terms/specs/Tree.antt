-- Types as finite trees. Each tree is `node head children` for one head and one list of children.
use Rattle.std.specs.Prelude.{◌≡◌, List, [], ◌∷◌, map, All}
use Rattle.std.proofs.Common.{ap, subst, refl}
use Rattle.std.proofs.lemmas.List.Elements.{All-nil, All-cons, All-head, All-tail}
use Rattle.mm_terms.specs.declared.ty_head.TyHead.{TyHead}
use Rattle.mm_terms.specs.declared.tree.Tree.{Tree}
use Rattle.mm_terms.specs.declared.tree.Tree.TheOpen.{Tree-F}
use Rattle.mm_terms.specs.declared.tree.Tree.TheViews.{out-Tree, roll-Tree, roll-out-Tree, out-roll-Tree}
use Rattle.mm_terms.specs.declared.tree.Tree.TheFolds.{fold-Tree, fold-roll-Tree, fold_out-Tree, ind-Tree, every-Tree, every_here-Tree, every_held-Tree, every_made-Tree}

-- the type with this head and these children
abbrev pub node : TyHead → List Tree → Tree
node head children = roll-Tree (record { head = head; children = children })

-- what stands at the head of a type
abbrev pub head_of : Tree → TyHead
head_of t = (out-Tree t).head

-- the types right below the head
abbrev pub children_of : Tree → List Tree
children_of t = (out-Tree t).children

-- a value of a type, by its head and the values of its children
abbrev pub tree_fold : {A : Type 0} → (TyHead → List A → A) → Tree → A
tree_fold {A} step = fold-Tree A (λ layer. step layer.head layer.children)

-- ---- laws

pub node-parts : (t : Tree) → node (head_of t) (children_of t) ≡ t
node-parts t = roll-out-Tree t

pub head_of-node : (head : TyHead) (children : List Tree) → head_of (node head children) ≡ head
head_of-node head children = ap (λ layer. layer.head) (out-roll-Tree (record { head = head; children = children }))

pub children_of-node : (head : TyHead) (children : List Tree) → children_of (node head children) ≡ children
children_of-node head children = ap (λ layer. layer.children) (out-roll-Tree (record { head = head; children = children }))

pub tree_fold-node : {A : Type 0} (step : TyHead → List A → A) (head : TyHead) (children : List Tree) → tree_fold step (node head children) ≡ step head (map (tree_fold step) children)
tree_fold-node {A} step head children = fold-roll-Tree A (λ layer. step layer.head layer.children) (record { head = head; children = children })

-- the same of a type that is not written as a node
pub tree_fold-parts : {A : Type 0} (step : TyHead → List A → A) (t : Tree) → tree_fold step t ≡ step (head_of t) (map (tree_fold step) (children_of t))
tree_fold-parts {A} step t = fold_out-Tree A (λ layer. step layer.head layer.children) t

each_of : (P : Tree → Type 0) (ts : List ((t : Tree) × P t)) → All P (map (λ e. e.0) ts)
each_of P [] = All-nil P
each_of P (t ∷ ts) = All-cons P t.0 (map (λ e. e.0) ts) t.1 (each_of P ts)

-- induction: what holds of a type wherever it holds of its children holds of every type
pub tree_ind : (P : Tree → Type 0) → ((head : TyHead) (children : List Tree) → All P children → P (node head children)) → (t : Tree) → P t
tree_ind P step =
    ind-Tree P (λ layer held are. step layer.head layer.children (subst (λ (z : Tree-F Tree). All P z.children) are (each_of P held.children)))

-- ---- what holds at each head of a type

-- P says it of a head and its children, and `every-Tree P` of each head in the type
module _ (P : Tree-F Tree → Type 0) where
  pub every-head : (t : Tree) → every-Tree P t → P (out-Tree t)
  every-head t each = every_here-Tree P t each

  pub every-children : (t : Tree) → every-Tree P t → All (every-Tree P) (children_of t)
  every-children t each =
      let held = every_held-Tree P t each in
      subst (λ (layer : Tree-F Tree). All (every-Tree P) layer.children) held.1 (each_of (every-Tree P) held.0.children)

  paired : (ts : List Tree) → All (every-Tree P) ts → List ((t : Tree) × every-Tree P t)
  paired [] each = []
  paired (t ∷ ts) each = (t, All-head (every-Tree P) t ts each) ∷ paired ts (All-tail (every-Tree P) t ts each)

  paired_are : (ts : List Tree) (each : All (every-Tree P) ts) → map (λ e. e.0) (paired ts each) ≡ ts
  unfolding paired
  paired_are [] each = refl
  paired_are (t ∷ ts) each = ap (λ list. t ∷ list) (paired_are ts (All-tail (every-Tree P) t ts each))

  pub every-node : (head : TyHead) (children : List Tree) → P (record { head = head; children = children }) → All (every-Tree P) children → every-Tree P (node head children)
  every-node head children here each =
      every_made-Tree P
      (record { head = head; children = children })
      (record { head = head; children = paired children each })
      (λ i. record { head = head; children = paired_are children each i })
      here
