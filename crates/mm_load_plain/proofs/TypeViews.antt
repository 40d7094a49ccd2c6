-- A fold over a written type that is made of its parts, and induction.
use Rattle.std.proofs.Common.{◌≡◌, ℕ, List, [], ◌∷◌, length, map, refl, sym, ap, subst}
use Rattle.std.specs.Prelude.{All}
use Rattle.std.proofs.lemmas.List.Elements.{All-nil, All-cons, All-head, All-tail}
use Rattle.mm_ast.specs.declared.types.Head.{Head}
use Rattle.mm_ast.specs.declared.types.Type as written
use Rattle.mm_ast.specs.declared.types.Type.TheOpen.{Type-F}
use Rattle.mm_ast.specs.declared.types.Type.TheViews.{roll-Type, out-roll-Type}
use Rattle.mm_ast.specs.declared.types.Type.TheFolds.{fold-roll-Type, ind-Type, every-Type, every_here-Type, every_held-Type, every_made-Type}
use Rattle.mm_ast.specs.Written.{Takes, TakesBelow, IsWrittenType}
use Rattle.mm_definitions.specs.Trees.{head_of, children_of, type_fold}

-- the written type with this line, this head and these children
abbrev pub written_node : ℕ → Head → List written.Type → written.Type
written_node line head children = roll-Type (record { line = line; head = head; children = children })

pub type_fold-node : {A : Type 0} (step : ℕ → Head → List A → A) (line : ℕ) (head : Head) (children : List written.Type) → type_fold step (written_node line head children) ≡ step line head (map (type_fold step) children)
type_fold-node {A} step line head children = fold-roll-Type A (λ layer. step layer.line layer.head layer.children) (record { line = line; head = head; children = children })

each_of : (P : written.Type → Type 0) (ts : List ((t : written.Type) × P t)) → All P (map (λ e. e.0) ts)
each_of P [] = All-nil P
each_of P (t ∷ ts) = All-cons P t.0 (map (λ e. e.0) ts) t.1 (each_of P ts)

-- induction: what holds of a type wherever it holds of its children holds of every type
pub written_ind : (P : written.Type → Type 0) → ((line : ℕ) (head : Head) (children : List written.Type) → All P children → P (written_node line head children)) → (t : written.Type) → P t
written_ind P step =
    ind-Type P (λ layer held are. step layer.line layer.head layer.children (subst (λ (z : Type-F written.Type). All P z.children) are (each_of P held.children)))

-- induction over the types right below a type
pub type_ind : (P : written.Type → Type 0) → ((t : written.Type) → All P (children_of t) → P t) → (t : written.Type) → P t
type_ind P step = written_ind P (λ line head children each. step (written_node line head children) (subst (All P) (sym (ap (λ layer. layer.children) (out-roll-Type (record { line = line; head = head; children = children })))) each))

-- ---- types that are read from a text

pub written_type-head : (t : written.Type) → IsWrittenType t → Takes (head_of t) (length (children_of t))
unfolding IsWrittenType
written_type-head t is = every_here-Type TakesBelow t is

pub written_type-children : (t : written.Type) → IsWrittenType t → All IsWrittenType (children_of t)
unfolding IsWrittenType
written_type-children t is =
    let held = every_held-Type TakesBelow t is in
    subst (λ (layer : Type-F written.Type). All (every-Type TakesBelow) layer.children) held.1 (each_of (every-Type TakesBelow) held.0.children)

paired : (P : written.Type → Type 0) (ts : List written.Type) → All P ts → List ((t : written.Type) × P t)
paired P [] each = []
paired P (t ∷ ts) each = (t, All-head P t ts each) ∷ paired P ts (All-tail P t ts each)

paired_are : (P : written.Type → Type 0) (ts : List written.Type) (each : All P ts) → map (λ e. e.0) (paired P ts each) ≡ ts
unfolding paired
paired_are P [] each = refl
paired_are P (t ∷ ts) each = ap (λ list. t ∷ list) (paired_are P ts (All-tail P t ts each))

-- a head with as many children as it takes, each of them as it is read from a text
pub written_type-node : (line : ℕ) (head : Head) (children : List written.Type) → Takes head (length children) → All IsWrittenType children → IsWrittenType (written_node line head children)
unfolding IsWrittenType
written_type-node line head children here each =
    every_made-Type TakesBelow
    (record { line = line; head = head; children = children })
    (record { line = line; head = head; children = paired (every-Type TakesBelow) children each })
    (λ i. record { line = line; head = head; children = paired_are (every-Type TakesBelow) children each i })
    here
