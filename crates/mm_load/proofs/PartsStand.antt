-- How definitions stand in a program: each at the place of its number, as it was made but for its Drop impl.
use Rattle.std.proofs.Common.{◌≡◌, ℕ, ◌+◌, suc, List, [], ◌∷◌, Option, Some, None, cond, map, refl, ap, ◌∙◌, subst, arith}
use Rattle.std.specs.Prelude.{Contains, slice_get}
use Rattle.std.specs.Option.{option_map, option_map_or}
use Rattle.std.proofs.lemmas.Option.{slice_get-map}
use Rattle.mm_ast.specs.declared.items.Crate.{Crate}
use Rattle.mm_lower.specs.Paths.{def_id}
use Rattle.mm_program.specs.declared.parts.DefPart.{DefPart}
use Rattle.mm_program.specs.declared.parts.Parts.{Parts}
use Rattle.mm_program.specs.Kinds.{is_data}
use Rattle.mm_program.specs.Views.{IsOfKind, shown, type_params_of, variants_of, params_of, path_of, methods_of}
use Rattle.mm_terms.specs.declared.ids.DefId.{DefId}
use Rattle.mm_load.specs.Drops.{first_drop, with_drop}
use Rattle.mm_load.specs.Located.{Located, items_of}
use Rattle.mm_load.specs.Meaning.{parts_at, all_parts, program_of}
use Rattle.mm_load.specs.Modules.{modules_of}
use Rattle.mm_load.proofs.Numbered.{part_at, dropped_at}

-- the definition with this number is this one, with some Drop impl or none
pub record Stands (p : Parts) (n : ℕ) (part : DefPart) : Type 0 where
  pub drop : Option DefId
  pub there : slice_get p.defs n ≡ Some (record part { drop_impl = drop })

-- these definitions stand one after the other, from this number on
abbrev pub Stand : Parts → ℕ → List DefPart → Type 0
Stand p n parts = (i : ℕ) (part : DefPart) → slice_get parts i ≡ Some part → Stands p (n + i) part

pub first_stands : (p : Parts) (n : ℕ) (part : DefPart) (parts : List DefPart) → Stand p n (part ∷ parts) → Stands p n part
first_stands p n part parts stand = let same : n + 0 ≡ n = omega arith in subst (λ k. Stands p k part) same (stand 0 part refl)

-- those behind the first are made of a list
pub later_stands : {X : Type 0} (p : Parts) (n : ℕ) (part : DefPart) (f : X → DefPart) (xs : List X) → Stand p n (part ∷ map f xs) → (k : ℕ) (x : X) → slice_get xs k ≡ Some x → Stands p (n + 1 + k) (f x)
later_stands p n part f xs stand k x at =
    let same : n + suc k ≡ n + 1 + k = omega arith in subst (λ j. Stands p j (f x)) same (stand (suc k) (f x) (slice_get-map f xs k ∙ ap (option_map f) at))

-- ---- what a program shows of a definition that stands in it

module _ {p : Parts} {n : ℕ} {part : DefPart} (stands : Stands p n part) where
  shown_is : {A : Type 0} (f : DefPart → A) (none : A) → shown f none p (def_id n) ≡ f (record part { drop_impl = stands.drop })
  shown_is f none = ap (λ o. option_map_or f o none) stands.there

  pub kind_is : IsOfKind p (def_id n) part.kind
  kind_is = shown_is (λ q. Some q.kind) None

  pub type_params_are : type_params_of p (def_id n) ≡ part.type_params
  type_params_are = shown_is (λ q. q.type_params) 0

  pub params_are : params_of p (def_id n) ≡ part.params
  params_are = shown_is (λ q. q.params) []

  pub variants_are : variants_of p (def_id n) ≡ part.fields
  variants_are = shown_is (λ q. q.fields) []

  pub methods_are : methods_of p (def_id n) ≡ part.methods
  methods_are = shown_is (λ q. q.methods) []

  pub path_is : path_of p (def_id n) ≡ part.path
  path_is = shown_is (λ q. q.path) []

-- ---- a text

-- the definitions of an item stand in the program of the text, from the number of the item on
pub item_stands : (crates : List Crate) (l : Located) → Contains (items_of crates) l → Stand (program_of crates) l.number (parts_at (modules_of crates) l)
unfolding with_drop
item_stands crates l has i part at =
    let n = l.number + i in
    let parts = all_parts crates in
    record { drop = cond (is_data part.kind) (first_drop parts n) None; there = dropped_at parts n ∙ ap (option_map (λ q. with_drop parts (n, q))) (part_at crates l i part has at) }
