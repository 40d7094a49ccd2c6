-- Induction over written types: what holds of a type wherever it holds of the types right below it holds of every type.
use Rattle.std.proofs.Common.{List, [], ◌∷◌, map, sym, ap, subst}
use Rattle.std.specs.Prelude.{All}
use Rattle.std.proofs.lemmas.List.Elements.{All-nil, All-cons}
use Rattle.mm_ast.specs.declared.types.Type as types
use Rattle.mm_ast.specs.declared.types.Type.TheFolds.{ind-Type}
use Rattle.mm_ast.specs.declared.types.Type.TheOpen.{Type-F}
use Rattle.mm_ast.specs.declared.types.Type.TheViews.{roll-Type, out-roll-Type}
use Rattle.mm_definitions.specs.Trees.{children_of}

each_of : (P : types.«Type» → Type 0) (ts : List ((t : types.«Type») × P t)) → All P (map (λ e. e.0) ts)
each_of P [] = All-nil P
each_of P (t ∷ ts) = All-cons P t.0 (map (λ e. e.0) ts) t.1 (each_of P ts)

pub type_ind : (P : types.«Type» → Type 0) → ((t : types.«Type») → All P (children_of t) → P t) → (t : types.«Type») → P t
type_ind P step =
    ind-Type P (λ layer held are.
    step (roll-Type layer)
    (subst (All P) (sym (ap (λ (z : Type-F types.«Type»). z.children) (out-roll-Type layer)))
    (subst (λ (z : Type-F types.«Type»). All P z.children) are (each_of P held.children))))
