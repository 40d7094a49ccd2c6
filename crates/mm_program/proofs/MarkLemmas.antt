-- Marking one list of names and then another, one list after the other, and what a type names.
use Rattle.std.specs.Prelude.{◌≡◌, ℕ, ◌+◌, ◌<◌, Bool, List, [], ◌∷◌, ◌++◌, length, drop, flat_map, slice_set, true}
use Rattle.std.proofs.Common.{refl, ap, sym, ◌∙◌, get_or, add-one, drop-cons, suc}
use Rattle.std.proofs.lemmas.List.Folds.{flat_map-map}
use Rattle.mm_terms.specs.declared.ids.DefId.{DefId}
use Rattle.mm_terms.specs.declared.tree.Tree.{Tree}
use Rattle.mm_terms.specs.Tree.{tree_fold-parts, head_of, children_of}
use Rattle.mm_program.specs.Marks.{marked}
use Rattle.mm_program.specs.Naming.{all_names, named_by, named_in_type, named_in_types}

pub marked_append : (marks : List Bool) (xs ys : List DefId) → marked marks (xs ++ ys) ≡ marked (marked marks xs) ys
marked_append marks [] ys = refl
marked_append marks (x ∷ xs) ys = marked_append (slice_set marks x.0 true) xs ys

left : {X : Type 0} (f : X → List DefId) (xs : List X) (i : ℕ) (x : X) → i < length xs → x ≡ get_or xs i x → flat_map f (drop i xs) ≡ f x ++ flat_map f (drop (i + 1) xs)
left f xs i x within is = ap (flat_map f) (drop-cons xs i x within) ∙ ap (λ y. f y ++ flat_map f (drop (suc i) xs)) (sym is) ∙ ap (λ k. f x ++ flat_map f (drop k xs)) (sym (add-one i))

-- a turn of a loop that marks what each of a list names: what is marked, and what those that are left name, stays the whole
pub mark_each : {X : Type 0} (f : X → List DefId) (xs : List X) (i : ℕ) (x : X) (before after all : List Bool) → i < length xs → x ≡ get_or xs i x → after ≡ marked before (f x) → marked before (flat_map f (drop i xs)) ≡ all → marked after (flat_map f (drop (i + 1) xs)) ≡ all
mark_each f xs i x before after all within is more kept =
    ap (λ marks. marked marks (flat_map f (drop (i + 1) xs))) more ∙ sym (marked_append before (f x) (flat_map f (drop (i + 1) xs)))
    ∙ ap (marked before) (sym (left f xs i x within is)) ∙ kept

-- the head, and then the types below it
pub type_names : (t : Tree) → named_in_type t ≡ named_by (head_of t) ++ named_in_types (children_of t)
unfolding named_in_type
type_names t =
    tree_fold-parts (λ head below. named_by head ++ all_names below) t
    ∙ ap (λ names. named_by (head_of t) ++ names) (flat_map-map (λ names. names) named_in_type (children_of t))
