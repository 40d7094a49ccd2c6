-- What items define and how many definitions they are, one list of items after the other; and to which item a name goes back.
use Rattle.std.proofs.Common.{◌≡◌, ℕ, ◌+◌, ◌<◌, ⊎_elim, List, [], ◌∷◌, ◌++◌, length, get_or, drop, drop-cons, suc, add-one, flat_map, refl, sym, ap, ◌∙◌, subst, append_assoc, arith}
use Rattle.std.specs.Prelude.{Contains}
use Rattle.std.proofs.lemmas.List.Elements.{Contains-append_cases}
use Rattle.std.proofs.lemmas.List.Sums.{sum_by-append, sum_by-cons}
use Rattle.mm_terms.proofs.ListLemmas.{Contains-nil}
use Rattle.mm_definitions.specs.declared.named.Named.{Named}
use Rattle.mm_definitions.specs.declared.numbered.Numbered.{Numbered}
use Rattle.mm_definitions.specs.Definitions.{named_from, placed_named}
use Rattle.mm_definitions.specs.Numbering.{added}
use Rattle.mm_definitions.specs.Placed.{Placed, size, sizes}

pub sizes-append : (ps qs : List Placed) → sizes (ps ++ qs) ≡ sizes ps + sizes qs
sizes-append ps qs = sum_by-append (λ p. size p.form) ps qs

-- the items behind the first one have the numbers behind its own
behind : (n : ℕ) (p : Placed) (ps : List Placed) → n + size p.form + sizes ps ≡ n + sizes (p ∷ ps)
behind n p ps = let first = sum_by-cons (λ p. size p.form) p ps in omega (arith, first)

none : (n : ℕ) → n ≡ n + sizes []
none n = omega arith

pub named_from-append : (n : ℕ) (ps qs : List Placed) → named_from n (ps ++ qs) ≡ named_from n ps ++ named_from (n + sizes ps) qs
named_from-append n [] qs = ap (λ k. named_from k qs) (none n)
named_from-append n (p ∷ ps) qs =
    ap (λ ds. placed_named n p ++ ds) (named_from-append (n + size p.form) ps qs)
    ∙ sym (append_assoc (placed_named n p) (named_from (n + size p.form) ps) (named_from (n + size p.form + sizes ps) qs))
    ∙ ap (λ k. placed_named n p ++ named_from (n + size p.form) ps ++ named_from k qs) (behind n p ps)

-- what is defined is defined by one of the items, whose number is that of the first one and how many definitions stand between
pub placed_at : (n : ℕ) (ps : List Placed) (d : Named) → Contains (named_from n ps) d → (before : List Placed) × (p : Placed) × (after : List Placed) × (ps ≡ before ++ p ∷ after) × Contains (placed_named (n + sizes before) p) d
placed_at n [] d has = absurd (Contains-nil d has)
placed_at n (p ∷ ps) d has =
    ⊎_elim (λ here. ([], p, ps, refl, subst (λ k. Contains (placed_named k p) d) (none n) here))
    (λ later. let at = placed_at (n + size p.form) ps d later in (p ∷ at.0, at.1, at.2, ap (λ qs. p ∷ qs) at.3, subst (λ k. Contains (placed_named k at.1) d) (behind n p at.0) at.4))
    (Contains-append_cases (placed_named n p) (named_from (n + size p.form) ps) d has)

-- ---- a walk

pub added-append : (found : Numbered) (ps qs : List Placed) → added (added found ps) qs ≡ added found (ps ++ qs)
added-append found ps qs = λ i. record { named = names i; next = number i }
  where
    names : found.named ++ named_from found.next ps ++ named_from (found.next + sizes ps) qs ≡ found.named ++ named_from found.next (ps ++ qs)
    names = append_assoc found.named (named_from found.next ps) (named_from (found.next + sizes ps) qs) ∙ ap (λ ds. found.named ++ ds) (sym (named_from-append found.next ps qs))

    number : found.next + sizes ps + sizes qs ≡ found.next + sizes (ps ++ qs)
    number = let both = sizes-append ps qs in omega (arith, both)

module _ {X : Type 0} (f : X → List Placed) (xs : List X) (i : ℕ) where
  -- a turn of a loop that adds the items of each of a list: what is found, with the items that are left, stays the whole
  pub added_each : (x : X) (before after all : Numbered) → i < length xs → x ≡ get_or xs i x → after ≡ added before (f x) → added before (flat_map f (drop i xs)) ≡ all → added after (flat_map f (drop (i + 1) xs)) ≡ all
  added_each x before after all within is more kept =
      ap (λ found. added found (flat_map f (drop (i + 1) xs))) more ∙ added-append before (f x) (flat_map f (drop (i + 1) xs)) ∙ ap (added before) (sym left) ∙ kept
    where
      left : flat_map f (drop i xs) ≡ f x ++ flat_map f (drop (i + 1) xs)
      left = ap (flat_map f) (drop-cons xs i x within) ∙ ap (λ y. f y ++ flat_map f (drop (suc i) xs)) (sym is) ∙ ap (λ k. f x ++ flat_map f (drop k xs)) (sym (add-one i))
