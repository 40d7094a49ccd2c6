-- The types of symbols as finite trees. Each is a head over a list of children.
use Rattle.std.specs.Prelude.{◌≡◌, List, map}
use Rattle.std.proofs.Common.{ap}
use Rattle.mm_symbols.specs.declared.form.SymHead.{SymHead}
use Rattle.mm_symbols.specs.declared.form.SymType.{SymType}
use Rattle.mm_symbols.specs.declared.form.SymType.TheViews.{out-SymType, roll-SymType, roll-out-SymType, out-roll-SymType}
use Rattle.mm_symbols.specs.declared.form.SymType.TheFolds.{fold-SymType, fold-roll-SymType, fold_out-SymType}

-- the type with this head and these children
abbrev pub sym_node : SymHead → List SymType → SymType
sym_node head children = roll-SymType (record { head = head; children = children })

-- what stands at the head of a type
abbrev pub sym_head : SymType → SymHead
sym_head t = (out-SymType t).head

-- the types right below the head
abbrev pub sym_children : SymType → List SymType
sym_children t = (out-SymType t).children

-- a value of a type, by its head and the values of its children
abbrev pub sym_fold : {A : Type 0} → (SymHead → List A → A) → SymType → A
sym_fold {A} step = fold-SymType A (λ layer. step layer.head layer.children)

-- ---- laws

pub sym_node-parts : (t : SymType) → sym_node (sym_head t) (sym_children t) ≡ t
sym_node-parts t = roll-out-SymType t

pub sym_head-node : (head : SymHead) (children : List SymType) → sym_head (sym_node head children) ≡ head
sym_head-node head children = ap (λ layer. layer.head) (out-roll-SymType (record { head = head; children = children }))

pub sym_children-node : (head : SymHead) (children : List SymType) → sym_children (sym_node head children) ≡ children
sym_children-node head children = ap (λ layer. layer.children) (out-roll-SymType (record { head = head; children = children }))

pub sym_fold-node : {A : Type 0} (step : SymHead → List A → A) (head : SymHead) (children : List SymType) → sym_fold step (sym_node head children) ≡ step head (map (sym_fold step) children)
sym_fold-node {A} step head children = fold-roll-SymType A (λ layer. step layer.head layer.children) (record { head = head; children = children })

-- the same of a type that is not written as a node
pub sym_fold-parts : {A : Type 0} (step : SymHead → List A → A) (t : SymType) → sym_fold step t ≡ step (sym_head t) (map (sym_fold step) (sym_children t))
sym_fold-parts {A} step t = fold_out-SymType A (λ layer. step layer.head layer.children) t
