-- Lists in which no two elements have one text.
use Rattle.std.proofs.Common.{◌≡◌, ℕ, ◌⊎◌, inl, inr, List, [], ◌∷◌, ◌++◌, map, flat_map, Some, sym, ◌∙◌, ap}
use Rattle.std.specs.declared.option.Option.{Option}
use Rattle.std.specs.Prelude.{All, Contains, ⊤}
use Rattle.std.proofs.lemmas.List.Elements.{All-head, All-tail, All-append, All-weaker, All-contains}
use Rattle.mm_terms.proofs.ListLemmas.{All-flat_map, All-from_contains, All-from_map, Contains-cons_cases, Contains-nil}

module _ {X : Type 0} (text : X → Option (List ℕ)) where
  -- two elements do not have one text
  abbrev pub IsOther : X → X → Type 0
  IsOther x y = (t : List ℕ) → text x ≡ Some t → text y ≡ Some t → ⊥

  abbrev pub AreApart : List X → Type 0
  AreApart [] = ⊤
  AreApart (x ∷ xs) = All (IsOther x) xs × AreApart xs

  apart_both : (xs ys : List X) → AreApart xs → AreApart ys → All (λ x. All (IsOther x) ys) xs → AreApart (xs ++ ys)
  apart_both [] ys apart rest across = rest
  apart_both (x ∷ xs) ys apart rest across = (
    All-append (IsOther x) xs ys apart.0 (All-head (λ x. All (IsOther x) ys) x xs across),
    apart_both xs ys apart.1 rest (All-tail (λ x. All (IsOther x) ys) x xs across),
  )

  -- a text is that of one element
  pub one_of : (xs : List X) (x y : X) (t : List ℕ) → AreApart xs → Contains xs x → Contains xs y → text x ≡ Some t → text y ≡ Some t → x ≡ y
  one_of [] x y t apart has_x has_y is_x is_y = absurd (Contains-nil x has_x)
  one_of (z ∷ xs) x y t apart has_x has_y is_x is_y =
      at (λ later behind. one_of xs x y t apart.1 later behind is_x is_y) (Contains-cons_cases z xs x has_x) (Contains-cons_cases z xs y has_y)
    where
      at : (Contains xs x → Contains xs y → x ≡ y) → (z ≡ x) ⊎ Contains xs x → (z ≡ y) ⊎ Contains xs y → x ≡ y
      at both (inl first) (inl second) = sym first ∙ second
      at both (inl first) (inr later) = absurd (All-contains (IsOther z) xs y apart.0 later t (ap text first ∙ is_x) is_y)
      at both (inr later) (inl first) = absurd (All-contains (IsOther z) xs x apart.0 later t (ap text first ∙ is_y) is_x)
      at both (inr later) (inr behind) = both later behind

-- elements have the texts of what they are mapped to
pub apart_of : {X Y : Type 0} (text : Y → Option (List ℕ)) (f : X → Y) (xs : List X) → AreApart text (map f xs) → AreApart (λ x. text (f x)) xs
apart_of text f [] apart = tt
apart_of text f (x ∷ xs) apart = (All-from_map (IsOther text (f x)) f xs apart.0, apart_of text f xs apart.1)

-- ---- lists of lists

module _ {X Y : Type 0} (name : X → Option (List ℕ)) (text : Y → Option (List ℕ)) (below : List ℕ → List ℕ → Type 0) where
  -- where the second has a text, the first has a name, and the text is below it
  abbrev pub IsAbove : X → Y → Type 0
  IsAbove x y = (t : List ℕ) → text y ≡ Some t → (n : List ℕ) × (name x ≡ Some n) × below n t

  module _ (f : X → List Y) (one_name : (n m t : List ℕ) → below n t → below m t → n ≡ m) where
    below_others : (x z : X) (y w : Y) → IsOther name x z → IsAbove x y → IsAbove z w → IsOther text y w
    below_others x z y w other over under t is_y is_w =
        let n = over t is_y in
        let m = under t is_w in
        other n.0 n.1 (m.1 ∙ ap (λ k. Some k) (sym (one_name n.0 m.0 t n.2 m.2)))

    -- lists with elements below names of which no two are the same
    pub all_apart : (xs : List X) → AreApart name xs → All (λ x. All (IsAbove x) (f x)) xs → All (λ x. AreApart text (f x)) xs → AreApart text (flat_map f xs)
    all_apart [] apart above each = tt
    all_apart (x ∷ xs) apart above each =
        let others = All-tail (λ x. All (IsAbove x) (f x)) x xs above in
        apart_both text (f x) (flat_map f xs)
        (All-head (λ x. AreApart text (f x)) x xs each)
        (all_apart xs apart.1 others (All-tail (λ x. AreApart text (f x)) x xs each))
        (All-weaker (IsAbove x) (λ y. All (IsOther text y) (flat_map f xs))
        (λ y over. All-flat_map (IsOther text y) f xs
        (All-from_contains (λ z. All (IsOther text y) (f z)) xs
        (λ z has. All-weaker (IsAbove z) (IsOther text y)
        (λ w under. below_others x z y w (All-contains (IsOther name x) xs z apart.0 has) over under)
        (f z) (All-contains (λ z. All (IsAbove z) (f z)) xs z others has))))
        (f x) (All-head (λ x. All (IsAbove x) (f x)) x xs above))
