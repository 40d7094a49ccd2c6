-- The first of some parts that passes, part by part.
use Rattle.std.specs.Prelude.{◌≡◌, ℕ, ◌+◌, ◌<◌, Bool, true, false, cond, List, [], ◌∷◌, drop, flat_map, get_or, length, map, Option, None, Some, is_none, is_some, not}
use Rattle.std.specs.List.{enumerate_from, find}
use Rattle.std.specs.Option.{option_map, option_or}
use Rattle.std.proofs.Common.{◌∙◌, refl, sym, ap}
use Rattle.std.proofs.lemmas.List.{drop_more}
use Rattle.std.proofs.Math.Bool.{false≢true}
use Rattle.mm_terms.proofs.ListLemmas.{find-append}

pub none_map : {A X : Type 0} (f : A → X) (o : Option A) → is_none (option_map f o) ≡ is_none o
none_map f None = refl
none_map f (Some x) = refl

pub find_map : {A X : Type 0} (p : X → Bool) (f : A → X) (xs : List A) → find p (map f xs) ≡ option_map f (find (λ a. p (f a)) xs)
find_map p f [] = refl
find_map p f (x ∷ xs) = ap (cond (p (f x)) (Some (f x))) (find_map p f xs) ∙ chosen (p (f x))
  where
    chosen : (b : Bool) → cond b (Some (f x)) (option_map f (find (λ a. p (f a)) xs)) ≡ option_map f (cond b (Some x) (find (λ a. p (f a)) xs))
    chosen true = refl
    chosen false = refl

module _ {A X : Type 0} (p : X → Bool) (f : A → List X) (xs : List A) (i : ℕ) (x : A) (all : Option X) where
  separated : i < length xs → x ≡ get_or xs i x → find p (flat_map f (drop i xs)) ≡ option_or (find p (f x)) (find p (flat_map f (drop (i + 1) xs)))
  separated lt at =
      ap (λ l. find p (flat_map f l)) (drop_more xs i x lt ∙ ap (λ y. y ∷ drop (i + 1) xs) (sym at))
      ∙ find-append p (f x) (flat_map f (drop (i + 1) xs))

  -- one that passes here is the first of all
  pub found_here : (y : X) → i < length xs → x ≡ get_or xs i x → find p (f x) ≡ Some y → find p (flat_map f (drop i xs)) ≡ all → Some y ≡ all
  found_here y lt at here before = ap (λ o. option_or o (find p (flat_map f (drop (i + 1) xs)))) (sym here) ∙ sym (separated lt at) ∙ before

  -- where none passes here, the first of the others is that of all
  pub missed_here : i < length xs → x ≡ get_or xs i x → find p (f x) ≡ None → find p (flat_map f (drop i xs)) ≡ all → find p (flat_map f (drop (i + 1) xs)) ≡ all
  missed_here lt at here before = ap (λ o. option_or o (find p (flat_map f (drop (i + 1) xs)))) (sym here) ∙ sym (separated lt at) ∙ before

pub none_is : {A : Type 0} (o : Option A) (b : Bool) → is_some o ≡ not b → b ≡ is_none o
none_is None true e = refl
none_is (Some x) false e = refl
none_is None false e = absurd (false≢true e)
none_is (Some x) true e = absurd (false≢true (sym e))

-- the same of parts with their positions
module _ {A X : Type 0} (p : X → Bool) (f : ℕ × A → List X) (xs : List A) (i : ℕ) (x : A) (all : Option X) where
  separated_at : i < length xs → x ≡ get_or xs i x → find p (flat_map f (enumerate_from i (drop i xs))) ≡ option_or (find p (f (i, x))) (find p (flat_map f (enumerate_from (i + 1) (drop (i + 1) xs))))
  separated_at lt at =
      ap (λ l. find p (flat_map f (enumerate_from i l))) (drop_more xs i x lt ∙ ap (λ y. y ∷ drop (i + 1) xs) (sym at))
      ∙ find-append p (f (i, x)) (flat_map f (enumerate_from (i + 1) (drop (i + 1) xs)))

  pub found_there : (y : X) → i < length xs → x ≡ get_or xs i x → find p (f (i, x)) ≡ Some y → find p (flat_map f (enumerate_from i (drop i xs))) ≡ all → Some y ≡ all
  found_there y lt at here before = ap (λ o. option_or o (find p (flat_map f (enumerate_from (i + 1) (drop (i + 1) xs))))) (sym here) ∙ sym (separated_at lt at) ∙ before

  pub missed_there : i < length xs → x ≡ get_or xs i x → find p (f (i, x)) ≡ None → find p (flat_map f (enumerate_from i (drop i xs))) ≡ all → find p (flat_map f (enumerate_from (i + 1) (drop (i + 1) xs))) ≡ all
  missed_there lt at here before = ap (λ o. option_or o (find p (flat_map f (enumerate_from (i + 1) (drop (i + 1) xs))))) (sym here) ∙ sym (separated_at lt at) ∙ before
