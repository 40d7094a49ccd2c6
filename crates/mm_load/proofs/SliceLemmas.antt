-- What stands at an index of two lists together, and of a list with its indices.
use Rattle.std.proofs.Common.{◌≡◌, ℕ, zero, suc, ◌+◌, ◌⊎◌, inl, inr, ⊎_elim, List, [], ◌∷◌, ◌++◌, length, Option, Some, refl, ap, ◌∙◌, arith}
use Rattle.std.proofs.lemmas.Option.{slice_get_within, get_or_from_slice_get}
use Rattle.std.specs.List.{Contains, enumerate_from, slice_get}
use Rattle.std.specs.Option.{option_map}

module _ {X : Type 0} where
  -- what stands in the first list stands there in both
  pub slice_get-append_left : (xs ys : List X) (i : ℕ) (x : X) → slice_get xs i ≡ Some x → slice_get (xs ++ ys) i ≡ Some x
  slice_get-append_left [] ys i x at = absurd (cc at)
  slice_get-append_left (z ∷ xs) ys zero x at = at
  slice_get-append_left (z ∷ xs) ys (suc i) x at = slice_get-append_left xs ys i x at

  -- and what stands in the second list stands behind the first
  pub slice_get-append_right : (xs ys : List X) (i : ℕ) → slice_get (xs ++ ys) (length xs + i) ≡ slice_get ys i
  slice_get-append_right [] ys i = let e : 0 + i ≡ i = omega arith in ap (slice_get ys) e
  slice_get-append_right (z ∷ xs) ys i = let e : suc (length xs) + i ≡ suc (length xs + i) = omega arith in ap (slice_get (z ∷ xs ++ ys)) e ∙ slice_get-append_right xs ys i

  pub slice_get-append_cases : (xs ys : List X) (i : ℕ) (x : X) → slice_get (xs ++ ys) i ≡ Some x → (slice_get xs i ≡ Some x) ⊎ ((k : ℕ) × (i ≡ length xs + k) × (slice_get ys k ≡ Some x))
  slice_get-append_cases [] ys i x at = let e : i ≡ 0 + i = omega arith in inr (i, e, at)
  slice_get-append_cases (z ∷ xs) ys zero x at = inl at
  slice_get-append_cases (z ∷ xs) ys (suc i) x at =
      ⊎_elim inl (λ rest. let e : suc i ≡ suc (length xs) + rest.0 = let is = rest.1 in omega (arith, is) in inr (rest.0, e, rest.2)) (slice_get-append_cases xs ys i x at)

  -- what stands at an index is an element
  pub Contains-slice_get : (xs : List X) (i : ℕ) (x : X) → slice_get xs i ≡ Some x → Contains xs x
  Contains-slice_get xs i x at = (i, slice_get_within xs i x at, get_or_from_slice_get xs i x x at)

  -- what stands at an index stands there with it
  pub slice_get-enumerate_from : (n : ℕ) (xs : List X) (k : ℕ) → slice_get (enumerate_from n xs) k ≡ option_map {U = ℕ × X} (λ x. (n + k, x)) (slice_get xs k)
  slice_get-enumerate_from n [] k = refl
  slice_get-enumerate_from n (x ∷ xs) zero = let e : n ≡ n + 0 = omega arith in ap {B = Option (ℕ × X)} (λ j. Some (j, x)) e
  slice_get-enumerate_from n (x ∷ xs) (suc k) =
      let e : n + 1 + k ≡ n + suc k = omega arith in slice_get-enumerate_from (n + 1) xs k ∙ ap (λ j. option_map {U = ℕ × X} (λ y. (j, y)) (slice_get xs k)) e
