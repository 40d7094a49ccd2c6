-- Where the items of crates stand.
use Rattle.std.proofs.Common.{◌≡◌, ℕ, suc, ◌+◌, ⊎_elim, List, [], ◌∷◌, take, Some, refl, subst, arith}
use Rattle.std.proofs.lemmas.List.Elements.{Contains-append_cases}
use Rattle.std.specs.List.{Contains, slice_get}
use Rattle.mm_ast.specs.declared.items.Crate.{Crate}
use Rattle.mm_ast.specs.declared.items.Item.{Item}
use Rattle.mm_definitions.specs.Placed.{Placed, placed_in, item_placed, size}
use Rattle.mm_resolve.specs.Scopes.{Scope}
use Rattle.mm_rules.specs.TreeFaults.{Reached, entered, behind}
use Rattle.mm_terms.proofs.ListLemmas.{Contains-cons_cases, Contains-from_flat_map, Contains-here, Contains-later, Contains-nil}
use Rattle.mm_load.specs.Located.{Located, located, located_from, located_in}

abbrev pub placed_of : Located → Placed
placed_of l = record { prefix = l.prefix; form = l.form }

-- an item of one crate has its number and its scope, and is one of its items
pub of_crate : (krate : ℕ) (scope : Scope) (n : ℕ) (ps : List Placed) (l : Located) → Contains (located_from krate scope n ps) l → (l.krate ≡ krate) × (l.scope ≡ scope) × Contains ps (placed_of l)
of_crate krate scope n [] l has = absurd (Contains-nil l has)
of_crate krate scope n (p ∷ ps) l has =
    ⊎_elim
    (λ same. subst (λ (z : Located). (z.krate ≡ krate) × (z.scope ≡ scope) × Contains (p ∷ ps) (placed_of z)) same (refl, refl, Contains-here p ps))
    (λ later. let at = of_crate krate scope (n + size p.form) ps l later in (at.0, at.1, Contains-later p ps (placed_of l) at.2))
    (Contains-cons_cases (located krate scope n p) (located_from krate scope (n + size p.form) ps) l has)

-- the crate of an item, by its place among crates of which the first has the number c
pub record Stands (c : ℕ) (reached : Reached) (ks : List Crate) (l : Located) : Type 0 where
  pub place : ℕ
  pub crate : Crate
  pub number : l.krate ≡ c + place
  pub there : slice_get ks place ≡ Some crate
  pub scope : l.scope ≡ (behind reached (take (suc place) ks)).scope
  pub placed : Contains (placed_in crate) (placed_of l)

pub stands_in : (c : ℕ) (reached : Reached) (ks : List Crate) (l : Located) → Contains (located_in c reached ks) l → Stands c reached ks l
stands_in c reached [] l has = absurd (Contains-nil l has)
stands_in c reached (k ∷ ks) l has =
    ⊎_elim
    (λ here.
    let at = of_crate c (entered reached k).scope reached.count (placed_in k) l here in
    let e : l.krate ≡ c + 0 = let is = at.0 in omega (arith, is) in
    record { place = 0; crate = k; number = e; there = refl; scope = at.1; placed = at.2 })
    (λ later.
    let at = stands_in (c + 1) (entered reached k) ks l later in
    let e : l.krate ≡ c + suc at.place = let is = at.number in omega (arith, is) in
    record { place = suc at.place; crate = at.crate; number = e; there = at.there; scope = at.scope; placed = at.placed })
    (Contains-append_cases (located_from c (entered reached k).scope reached.count (placed_in k)) (located_in (c + 1) (entered reached k) ks) l has)

-- what stands in a crate stands in one of its items
pub in_item : (krate : Crate) (p : Placed) → Contains (placed_in krate) p → (item : Item) × Contains krate.items item × Contains (item_placed item krate.name.text) p
unfolding placed_in
in_item krate p has = Contains-from_flat_map (λ item. item_placed item krate.name.text) krate.items p has
