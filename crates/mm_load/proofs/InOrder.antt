-- Items with numbers one after the other, by their sizes.
use Rattle.std.proofs.Common.{◌≡◌, ℕ, ◌+◌, ◌-◌, ◌<◌, ◌≤◌, ⊎_elim, List, [], ◌∷◌, ◌++◌, length, flat_map, Some, refl, sym, ap, ◌∙◌, subst, arith}
use Rattle.std.proofs.lemmas.List.Sums.{sum_by-cons}
use Rattle.std.specs.List.{Contains, slice_get}
use Rattle.std.specs.Prelude.{⊤}
use Rattle.mm_ast.specs.declared.items.Crate.{Crate}
use Rattle.mm_definitions.specs.Placed.{Placed, placed_in, size, sizes, count_in}
use Rattle.mm_program.specs.declared.parts.DefPart.{DefPart}
use Rattle.mm_resolve.specs.Scopes.{Scope}
use Rattle.mm_rules.specs.TreeFaults.{Reached, entered, start}
use Rattle.mm_terms.proofs.ListLemmas.{Contains-cons_cases, Contains-here, Contains-later, Contains-nil}
use Rattle.mm_load.specs.Located.{Located, located_from, located_in, items_of}
use Rattle.mm_load.proofs.SliceLemmas.{slice_get-append_left, slice_get-append_right, slice_get-append_cases}

-- the first item has the number n, and each other one follows the definitions of the one before it
abbrev pub InOrder : ℕ → List Located → Type 0
InOrder n [] = ⊤
InOrder n (l ∷ ls) = (l.number ≡ n) × InOrder (n + size l.form) ls

-- ---- the items of a text

order_from : (krate : ℕ) (scope : Scope) (n : ℕ) (ps : List Placed) (rest : List Located) → InOrder (n + sizes ps) rest → InOrder n (located_from krate scope n ps ++ rest)
order_from krate scope n [] rest order = let e : n + sizes [] ≡ n = omega arith in subst (λ k. InOrder k rest) e order
order_from krate scope n (p ∷ ps) rest order =
    let e : n + sizes (p ∷ ps) ≡ n + size p.form + sizes ps = let first = sum_by-cons (λ p. size p.form) p ps in omega (arith, first) in
    (refl, order_from krate scope (n + size p.form) ps rest (subst (λ k. InOrder k rest) e order))

order_in : (c : ℕ) (reached : Reached) (ks : List Crate) → InOrder reached.count (located_in c reached ks)
unfolding count_in
order_in c reached [] = tt
order_in c reached (k ∷ ks) = order_from c (entered reached k).scope reached.count (placed_in k) (located_in (c + 1) (entered reached k) ks) (order_in (c + 1) (entered reached k) ks)

pub items_in_order : (crates : List Crate) → InOrder 0 (items_of crates)
unfolding items_of
items_in_order crates = order_in 0 start crates

-- ---- numbers and places

at_least : (n : ℕ) (ls : List Located) (l : Located) → InOrder n ls → Contains ls l → n ≤ l.number
at_least n [] l order has = absurd (Contains-nil l has)
at_least n (x ∷ ls) l order has =
    ⊎_elim (λ same. let here = order.0 in let as_well = ap (λ (z : Located). z.number) same in omega (arith, here, as_well))
    (λ later. let rest = at_least (n + size x.form) ls l order.1 later in omega (arith, rest))
    (Contains-cons_cases x ls l has)

-- a number is that of one item, at one place
pub one_place : (n : ℕ) (ls : List Located) (l m : Located) (i j : ℕ)
    → InOrder n ls → Contains ls l → Contains ls m → i < size l.form → j < size m.form → l.number + i ≡ m.number + j → (l ≡ m) × (i ≡ j)
one_place n [] l m i j order has_l has_m i_within j_within same = absurd (Contains-nil l has_l)
one_place n (x ∷ ls) l m i j order has_l has_m i_within j_within same =
    ⊎_elim
    (λ is_l. ⊎_elim
    (λ is_m. let e : i ≡ j = let a = ap (λ (z : Located). z.number) is_l in let b = ap (λ (z : Located). z.number) is_m in omega (arith, same, a, b) in (sym is_l ∙ is_m, e))
    (λ later. absurd (apart l m i j is_l later i_within same))
    (Contains-cons_cases x ls m has_m))
    (λ later. ⊎_elim
    (λ is_m. absurd (apart m l j i is_m later j_within (sym same)))
    (λ later_m. one_place (n + size x.form) ls l m i j order.1 later later_m i_within j_within same)
    (Contains-cons_cases x ls m has_m))
    (Contains-cons_cases x ls l has_l)
  where
    -- the first item and a later one
    apart : (a b : Located) (i j : ℕ) → x ≡ a → Contains ls b → i < size a.form → a.number + i ≡ b.number + j → ⊥
    apart a b i j is later within same =
        let here = order.0 in
        let number = ap (λ (z : Located). z.number) is in
        let long = ap (λ (z : Located). size z.form) is in
        let behind = at_least (n + size x.form) ls b order.1 later in
        omega (arith, here, number, long, behind, within, same)

module _ (f : Located → List DefPart) (as_many : (l : Located) → length (f l) ≡ size l.form) where
  -- what an item has at a place stands behind what the items before it have
  pub at_place : (n : ℕ) (ls : List Located) (l : Located) (i k : ℕ) (part : DefPart)
      → InOrder n ls → Contains ls l → slice_get (f l) i ≡ Some part → n + k ≡ l.number + i → slice_get (flat_map f ls) k ≡ Some part
  at_place n [] l i k part order has at is = absurd (Contains-nil l has)
  at_place n (x ∷ ls) l i k part order has at is =
      ⊎_elim
      (λ same.
      let e : i ≡ k = let here = order.0 in let number = ap (λ (z : Located). z.number) same in omega (arith, here, number, is) in
      subst (λ j. slice_get (f x ++ flat_map f ls) j ≡ Some part) e
      (slice_get-append_left (f x) (flat_map f ls) i part (subst (λ z. slice_get (f z) i ≡ Some part) (sym same) at)))
      (λ later.
      let long = as_many x in
      let behind = at_least (n + size x.form) ls l order.1 later in
      let e : length (f x) + (k - size x.form) ≡ k = omega (arith, long, behind, is) in
      let rest : n + size x.form + (k - size x.form) ≡ l.number + i = omega (arith, behind, is) in
      ap (slice_get (f x ++ flat_map f ls)) (sym e)
      ∙ slice_get-append_right (f x) (flat_map f ls) (k - size x.form)
      ∙ at_place (n + size x.form) ls l i (k - size x.form) part order.1 later at rest)
      (Contains-cons_cases x ls l has)

  -- and what stands at a place is of an item
  pub from_place : (n : ℕ) (ls : List Located) (k : ℕ) (part : DefPart)
      → InOrder n ls → slice_get (flat_map f ls) k ≡ Some part → (l : Located) × Contains ls l × (i : ℕ) × (n + k ≡ l.number + i) × (slice_get (f l) i ≡ Some part)
  from_place n [] k part order at = absurd (cc at)
  from_place n (x ∷ ls) k part order at =
      ⊎_elim
      (λ here. let e : n + k ≡ x.number + k = let number = order.0 in omega (arith, number) in (x, Contains-here x ls, k, e, here))
      (λ later.
      let from = from_place (n + size x.form) ls later.0 part order.1 later.2 in
      let e : n + k ≡ from.0.number + from.2 = let long = as_many x in let behind = later.1 in let is = from.3 in omega (arith, long, behind, is) in
      (from.0, Contains-later x ls from.0 from.1, from.2, e, from.4))
      (slice_get-append_cases (f x) (flat_map f ls) k part at)
