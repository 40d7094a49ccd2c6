-- Lists of numbers: what is in them, and what two of them share.
use Rattle.std.proofs.Common.{◌≡◌, ◌⊎◌, inl, inr, ℕ, List, [], ◌∷◌, ◌++◌, Bool, true, false, ◌&&◌, ◌||◌, not, eqb, refl, sym, subst}
use Rattle.std.proofs.lemmas.Bool.{eqb-true, or_cases, or_left, or_right, or_from, and_parts, not-true, false_from_ne_true, both_ways}
use Rattle.mm_forms.specs.Forms.{has, apart}

pub apart_in : (ns ms : List ℕ) (n : ℕ) → apart ns ms ≡ true → has n ms ≡ true → has n ns ≡ false
apart_in [] ms n a h = refl
apart_in (k ∷ ns) ms n a h =
    let parts = and_parts (not (has k ms)) (apart ns ms) a in
    let differs : eqb n k ≡ true → ⊥ = λ e. both_ways (has k ms) (not-true (has k ms) parts.0) (subst (λ j. has j ms ≡ true) (eqb-true n k e) h) in
    or_from (eqb n k) (has n ns) (false_from_ne_true (eqb n k) differs) (apart_in ns ms n parts.1 h)

pub has_left : (n : ℕ) (xs ys : List ℕ) → has n xs ≡ true → has n (xs ++ ys) ≡ true
has_left n [] ys h = cc
has_left n (x ∷ xs) ys h = elim (or_cases (eqb n x) (has n xs) h) [ inl e ↦ or_left (eqb n x) (has n (xs ++ ys)) e | inr e ↦ or_right (eqb n x) (has n (xs ++ ys)) (has_left n xs ys e) ]

pub has_right : (n : ℕ) (xs ys : List ℕ) → has n ys ≡ true → has n (xs ++ ys) ≡ true
has_right n [] ys h = h
has_right n (x ∷ xs) ys h = or_right (eqb n x) (has n (xs ++ ys)) (has_right n xs ys h)

pub has_either : (n : ℕ) (xs ys : List ℕ) → has n (xs ++ ys) ≡ true → (has n xs ≡ true) ⊎ (has n ys ≡ true)
has_either n [] ys h = inr h
has_either n (x ∷ xs) ys h = elim (or_cases (eqb n x) (has n (xs ++ ys)) h) [ inl e ↦ inl (or_left (eqb n x) (has n xs) e) | inr e ↦ elim (has_either n xs ys e) [ inl f ↦ inl (or_right (eqb n x) (has n xs) f) | inr f ↦ inr f ] ]

pub not_left : (n : ℕ) (xs ys : List ℕ) → has n (xs ++ ys) ≡ false → has n xs ≡ false
not_left n xs ys h = false_from_ne_true (has n xs) (λ e. both_ways (has n (xs ++ ys)) h (has_left n xs ys e))

pub not_right : (n : ℕ) (xs ys : List ℕ) → has n (xs ++ ys) ≡ false → has n ys ≡ false
not_right n xs ys h = false_from_ne_true (has n ys) (λ e. both_ways (has n (xs ++ ys)) h (has_right n xs ys e))

left_false : (p q : Bool) → (p || q) ≡ false → p ≡ false
left_false true q h = cc
left_false false q h = refl

right_false : (p q : Bool) → (p || q) ≡ false → q ≡ false
right_false true q h = cc
right_false false q h = h

pub has_none : (j : ℕ) (xs ys : List ℕ) → has j xs ≡ false → has j ys ≡ false → has j (xs ++ ys) ≡ false
has_none j [] ys a b = b
has_none j (x ∷ xs) ys a b = or_from (eqb j x) (has j (xs ++ ys)) (left_false (eqb j x) (has j xs) a) (has_none j xs ys (right_false (eqb j x) (has j xs) a) b)

-- whether each number of one list is in the other
abbrev pub subset : List ℕ → List ℕ → Bool
subset [] ns = true
subset (m ∷ ms) ns = has m ns && subset ms ns

pub has_not : (k : ℕ) (ms ns : List ℕ) → subset ms ns ≡ true → has k ns ≡ false → has k ms ≡ false
has_not k [] ns s h = refl
has_not k (m ∷ ms) ns s h =
    let p = and_parts (has m ns) (subset ms ns) s in
    let differs : eqb k m ≡ true → ⊥ = λ e. both_ways (has k ns) h (subst (λ j. has j ns ≡ true) (sym (eqb-true k m e)) p.0) in
    or_from (eqb k m) (has k ms) (false_from_ne_true (eqb k m) differs) (has_not k ms ns p.1 h)

pub both_true : (a b : Bool) → a ≡ true → b ≡ true → (a && b) ≡ true
both_true true b h g = g
both_true false b h g = cc
