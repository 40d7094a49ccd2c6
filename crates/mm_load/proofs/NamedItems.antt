-- What the items of crates are called, and the scopes of the crates.
use Rattle.std.proofs.Common.{◌≡◌, ℕ, zero, suc, ◌+◌, ◌⊎◌, inl, inr, ⊎_elim, List, [], ◌∷◌, ◌++◌, take, sym, ap, subst}
use Rattle.std.proofs.lemmas.List.Elements.{Contains-append_left, Contains-append_right, Contains-append_cases}
use Rattle.std.specs.List.{Contains}
use Rattle.mm_ast.specs.declared.items.Crate.{Crate}
use Rattle.mm_definitions.specs.declared.named.Named.{Named}
use Rattle.mm_definitions.specs.Definitions.{form_named, placed_named, named_from, definitions_in}
use Rattle.mm_definitions.specs.Placed.{Placed, placed_in, size}
use Rattle.mm_resolve.specs.Scopes.{Scope, all}
use Rattle.mm_rules.specs.TreeFaults.{Reached, entered, behind}
use Rattle.mm_terms.proofs.ListLemmas.{Contains-cons_cases, Contains-here, Contains-nil}
use Rattle.mm_load.specs.Located.{Located, located, located_from, located_in}

-- an item of a list that a name is of
pub record NamedAmong (ls : List Located) (d : Named) : Type 0 where
  pub item : Located
  pub among : Contains ls item
  pub named : Contains (form_named item.number item.prefix item.form) d

more_items : (xs ys : List Located) (d : Named) → NamedAmong ys d → NamedAmong (xs ++ ys) d
more_items xs ys d by = record { item = by.item; among = Contains-append_right xs ys by.item by.among; named = by.named }

-- ---- one crate

-- what is defined from a number on is of an item located from it on
named_from-item : (krate : ℕ) (scope : Scope) (n : ℕ) (ps : List Placed) (d : Named) → Contains (named_from n ps) d → NamedAmong (located_from krate scope n ps) d
named_from-item krate scope n [] d has = absurd (Contains-nil d has)
named_from-item krate scope n (p ∷ ps) d has =
    ⊎_elim
    (λ here. record { item = located krate scope n p; among = Contains-here (located krate scope n p) (located_from krate scope (n + size p.form) ps); named = here })
    (λ later. more_items (located krate scope n p ∷ []) (located_from krate scope (n + size p.form) ps) d (named_from-item krate scope (n + size p.form) ps d later))
    (Contains-append_cases (placed_named n p) (named_from (n + size p.form) ps) d has)

-- and what an item is called that is located from a number on is defined from it on
item-named_from : (krate : ℕ) (scope : Scope) (n : ℕ) (ps : List Placed) (l : Located) (d : Named)
    → Contains (located_from krate scope n ps) l → Contains (form_named l.number l.prefix l.form) d → (l.scope ≡ scope) × Contains (named_from n ps) d
item-named_from krate scope n [] l d has named = absurd (Contains-nil l has)
item-named_from krate scope n (p ∷ ps) l d has named =
    ⊎_elim
    (λ same. (
      ap (λ (z : Located). z.scope) (sym same),
      Contains-append_left (placed_named n p) (named_from (n + size p.form) ps) d (subst (λ (z : Located). Contains (form_named z.number z.prefix z.form) d) (sym same) named),
    ))
    (λ later. let rest = item-named_from krate scope (n + size p.form) ps l d later named in (rest.0, Contains-append_right (placed_named n p) (named_from (n + size p.form) ps) d rest.1))
    (Contains-cons_cases (located krate scope n p) (located_from krate scope (n + size p.form) ps) l has)

-- ---- all crates

-- what is in the scope behind crates was in it before, or is of one of their items
pub named_in : (c : ℕ) (reached : Reached) (ks : List Crate) (d : Named) → Contains (all (behind reached ks).scope) d → Contains (all reached.scope) d ⊎ NamedAmong (located_in c reached ks) d
unfolding definitions_in
named_in c reached [] d has = inl has
named_in c reached (k ∷ ks) d has =
    let first = located_from c (entered reached k).scope reached.count (placed_in k) in
    let others = located_in (c + 1) (entered reached k) ks in
    ⊎_elim
    (λ before. ⊎_elim inl
    (λ own. let by = named_from-item c (entered reached k).scope reached.count (placed_in k) d own in
    inr (record { item = by.item; among = Contains-append_left first others by.item by.among; named = by.named }))
    (Contains-append_cases (all reached.scope) (definitions_in reached.count k) d before))
    (λ later. inr (more_items first others d later))
    (named_in (c + 1) (entered reached k) ks d has)

-- an item of the first crates is one of all
pub located_in-take : (c : ℕ) (reached : Reached) (n : ℕ) (ks : List Crate) (l : Located) → Contains (located_in c reached (take n ks)) l → Contains (located_in c reached ks) l
located_in-take c reached zero ks l has = absurd (Contains-nil l has)
located_in-take c reached (suc n) [] l has = absurd (Contains-nil l has)
located_in-take c reached (suc n) (k ∷ ks) l has =
    let first = located_from c (entered reached k).scope reached.count (placed_in k) in
    let others = located_in (c + 1) (entered reached k) ks in
    ⊎_elim
    (λ here. Contains-append_left first others l here)
    (λ later. Contains-append_right first others l (located_in-take (c + 1) (entered reached k) n ks l later))
    (Contains-append_cases first (located_in (c + 1) (entered reached k) (take n ks)) l has)

-- what an item is called is defined by its own crate
pub own_in : (c : ℕ) (reached : Reached) (ks : List Crate) (l : Located) (d : Named) → Contains (located_in c reached ks) l → Contains (form_named l.number l.prefix l.form) d → Contains l.scope.own d
unfolding definitions_in
own_in c reached [] l d has named = absurd (Contains-nil l has)
own_in c reached (k ∷ ks) l d has named =
    ⊎_elim
    (λ here. let is = item-named_from c (entered reached k).scope reached.count (placed_in k) l d here named in subst (λ (s : Scope). Contains s.own d) (sym is.0) is.1)
    (λ later. own_in (c + 1) (entered reached k) ks l d later named)
    (Contains-append_cases (located_from c (entered reached k).scope reached.count (placed_in k)) (located_in (c + 1) (entered reached k) ks) l has)
