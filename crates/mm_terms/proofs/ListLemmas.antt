-- Lists: which elements they have, what a search finds, and what holds of each element.
use Rattle.std.proofs.Common.{◌≡◌, ℕ, zero, suc, ◌+◌, ◌<◌, ◌⊎◌, inl, inr, ⊎_elim, cond, ◌&&◌, Bool, true, false, List, [], ◌∷◌, ◌++◌, length, map, get_or, flat_map, Some, None, refl, sym, ap, ◌∙◌, subst, arith}
use Rattle.std.specs.declared.option.Option.{Option}
use Rattle.std.specs.Prelude.{All, Contains, filter, slice_get, IfSome}
use Rattle.std.specs.List.{enumerate_from, find}
use Rattle.std.specs.Option.{option_or}
use Rattle.std.specs.Str.{bytes_eq}
use Rattle.std.proofs.lemmas.Bool.{false≢true}
use Rattle.std.proofs.lemmas.List.{get_or-map, get_or_default, length-map}
use Rattle.std.proofs.lemmas.List.Elements.{All-nil, All-cons, All-head, All-tail, All-append, All-filter, filter_passes, All-contains, Contains-append_left, Contains-append_right, Contains-append_cases}
use Rattle.std.proofs.lemmas.Option.{slice_get_within, get_or_from_slice_get}
use Rattle.std.proofs.lemmas.Slice.Eq.{bytes_eq-Decides}

-- ---- tests

pub and_left : (a b : Bool) → (a && b) ≡ true → a ≡ true
and_left true b is = refl
and_left false b is = absurd (false≢true is)

pub and_right : (a b : Bool) → (a && b) ≡ true → b ≡ true
and_right true b is = is
and_right false b is = absurd (false≢true is)

pub and_true : (a b : Bool) → a ≡ true → b ≡ true → (a && b) ≡ true
and_true a b left right = ap (λ x. x && b) left ∙ right

-- ---- elements

module _ {X : Type 0} where
  pub Contains-nil : (x : X) → Contains [] x → ⊥
  Contains-nil x has = absurd (omega (arith, has.1))

  pub Contains-here : (x : X) (xs : List X) → Contains (x ∷ xs) x
  Contains-here x xs = (0, omega arith, refl)

  pub Contains-later : (y : X) (xs : List X) (x : X) → Contains xs x → Contains (y ∷ xs) x
  Contains-later y xs x has = Contains-append_right (y ∷ []) xs x has

  -- an element is the first or one of the others
  pub Contains-cons_cases : (y : X) (xs : List X) (x : X) → Contains (y ∷ xs) x → (y ≡ x) ⊎ Contains xs x
  Contains-cons_cases y xs x (zero, within, is) = inl is
  Contains-cons_cases y xs x (suc k, within, is) = inr (k, omega (arith, within), is)

  -- what is found is an element that passes
  pub find-Some : (test : X → Bool) (xs : List X) (x : X) → find test xs ≡ Some x → Contains xs x × (test x ≡ true)
  find-Some test [] x found = absurd (cc found)
  find-Some test (y ∷ ys) x found = at (find-Some test ys x) (test y) refl found
    where
      at : (find test ys ≡ Some x → Contains ys x × (test x ≡ true)) → (b : Bool) → test y ≡ b → cond b (Some y) (find test ys) ≡ Some x → Contains (y ∷ ys) x × (test x ≡ true)
      at again true passes first = let same : y ≡ x = cc first in ((0, omega arith, same), ap test (sym same) ∙ passes)
      at again false fails later = let rest = again later in (Contains-later y ys x rest.0, rest.1)

  -- where nothing is found, no element passes
  pub find-None : (test : X → Bool) (xs : List X) (x : X) → find test xs ≡ None → Contains xs x → test x ≡ true → ⊥
  find-None test [] x none has passes = Contains-nil x has
  find-None test (y ∷ ys) x none has passes = at (find-None test ys x) (test y) refl none
    where
      at : (find test ys ≡ None → Contains ys x → test x ≡ true → ⊥) → (b : Bool) → test y ≡ b → cond b (Some y) (find test ys) ≡ None → ⊥
      at again true here none' = absurd (cc none')
      at again false here none' =
          ⊎_elim (λ same. false≢true (sym here ∙ ap test same ∙ passes)) (λ rest. again none' rest passes) (Contains-cons_cases y ys x has)

  -- the first that passes of two lists together
  pub find-append : (test : X → Bool) (xs ys : List X) → find test (xs ++ ys) ≡ option_or (find test xs) (find test ys)
  find-append test [] ys = refl
  find-append test (x ∷ xs) ys = at (test x) (find-append test xs ys)
    where
      at : (b : Bool) → find test (xs ++ ys) ≡ option_or (find test xs) (find test ys) → cond b (Some x) (find test (xs ++ ys)) ≡ option_or (cond b (Some x) (find test xs)) (find test ys)
      at true again = refl
      at false again = again

module _ {X : Type 0} where
  -- an element with its index is an element
  pub Contains-enumerate : (n : ℕ) (xs : List X) (e : ℕ × X) → Contains (enumerate_from n xs) e → Contains xs e.1
  Contains-enumerate n [] e has = absurd (omega (arith, has.1))
  Contains-enumerate n (x ∷ xs) e has =
      ⊎_elim (λ first. subst (Contains (x ∷ xs)) (ap (λ q. q.1) first) (Contains-here x xs))
      (λ rest. Contains-later x xs e.1 (Contains-enumerate (n + 1) xs e rest))
      (Contains-cons_cases {X = ℕ × X} (n, x) (enumerate_from (n + 1) xs) e has)

  -- and each element has an index
  pub Contains-enumerated : (n : ℕ) (xs : List X) (x : X) → Contains xs x → (k : ℕ) × Contains (enumerate_from n xs) (k, x)
  Contains-enumerated n [] x has = absurd (omega (arith, has.1))
  Contains-enumerated n (y ∷ xs) x has =
      ⊎_elim (λ same. (n, subst (λ z. Contains (enumerate_from n (y ∷ xs)) (n, z)) same (Contains-here {X = ℕ × X} (n, y) (enumerate_from (n + 1) xs))))
      (λ rest. let k = Contains-enumerated (n + 1) xs x rest in (k.0, Contains-later {X = ℕ × X} (n, y) (enumerate_from (n + 1) xs) (k.0, x) k.1))
      (Contains-cons_cases y xs x has)

module _ {X Y : Type 0} (f : X → Y) where
  pub Contains-map : (xs : List X) (x : X) → Contains xs x → Contains (map f xs) (f x)
  Contains-map [] x has = absurd (omega (arith, has.1))
  Contains-map (y ∷ xs) x has =
      ⊎_elim (λ same. subst (λ z. Contains (map f (y ∷ xs)) (f z)) same (Contains-here (f y) (map f xs)))
      (λ rest. Contains-later (f y) (map f xs) (f x) (Contains-map xs x rest))
      (Contains-cons_cases y xs x has)

  -- each element of a mapped list comes from one
  pub Contains-from_map : (xs : List X) (y : Y) → Contains (map f xs) y → (x : X) × Contains xs x × (y ≡ f x)
  Contains-from_map [] y has = absurd (omega (arith, has.1))
  Contains-from_map (x ∷ xs) y has =
      ⊎_elim (λ same. (x, Contains-here x xs, sym same))
      (λ rest. let from = Contains-from_map xs y rest in (from.0, Contains-later x xs from.0 from.1, from.2))
      (Contains-cons_cases (f x) (map f xs) y has)

module _ {X Y : Type 0} (f : X → List Y) where
  pub Contains-flat_map : (xs : List X) (x : X) (y : Y) → Contains xs x → Contains (f x) y → Contains (flat_map f xs) y
  Contains-flat_map [] x y in_xs has = absurd (Contains-nil x in_xs)
  Contains-flat_map (z ∷ xs) x y in_xs has =
      ⊎_elim (λ same. Contains-append_left (f z) (flat_map f xs) y (subst (λ w. Contains (f w) y) (sym same) has))
      (λ rest. Contains-append_right (f z) (flat_map f xs) y (Contains-flat_map xs x y rest has))
      (Contains-cons_cases z xs x in_xs)

  pub Contains-from_flat_map : (xs : List X) (y : Y) → Contains (flat_map f xs) y → (x : X) × Contains xs x × Contains (f x) y
  Contains-from_flat_map [] y has = absurd (Contains-nil y has)
  Contains-from_flat_map (x ∷ xs) y has =
      ⊎_elim (λ here. (x, Contains-here x xs, here))
      (λ rest. let from = Contains-from_flat_map xs y rest in (from.0, Contains-later x xs from.0 from.1, from.2))
      (Contains-append_cases (f x) (flat_map f xs) y has)

-- ---- what holds of each element

module _ {X : Type 0} (P : X → Type 0) where
  -- what holds of each that a list contains
  pub All-from_contains : (xs : List X) → ((x : X) → Contains xs x → P x) → All P xs
  All-from_contains xs each k d within = each (get_or xs k d) (k, within, get_or_default xs k (get_or xs k d) d within)

  -- what holds of each element holds of the one at an index
  pub All-slice_get : (xs : List X) (i : ℕ) (x : X) → All P xs → slice_get xs i ≡ Some x → P x
  All-slice_get xs i x all at = subst P (get_or_from_slice_get xs i x x at) (all i x (slice_get_within xs i x at))

  -- what holds of an element wherever it passes a test holds of each that is kept
  pub All-passing : (test : X → Bool) (xs : List X) → All (λ x. test x ≡ true → P x) xs → All P (filter test xs)
  All-passing test xs all = λ k d within. All-filter test (λ x. test x ≡ true → P x) xs all k d within (filter_passes test xs k d within)

  -- what holds of each element holds of what is found
  pub All-find : (test : X → Bool) (xs : List X) → All P xs → IfSome (find test xs) P
  All-find test [] all = tt
  All-find test (y ∷ ys) all = held (test y) (All-head P y ys all) (All-find test ys (All-tail P y ys all))
    where
      held : (b : Bool) → P y → IfSome (find test ys) P → IfSome (cond b (Some y) (find test ys)) P
      held true here rest = here
      held false here rest = rest

-- what follows from two facts on each element
pub All-both : {X : Type 0} (P Q R : X → Type 0) → ((x : X) → P x → Q x → R x) → (xs : List X) → All P xs → All Q xs → All R xs
All-both P Q R from xs these those k d within = from (get_or xs k d) (these k d within) (those k d within)

module _ {X Y : Type 0} (P : Y → Type 0) where
  pub All-from_map : (f : X → Y) (xs : List X) → All P (map f xs) → All (λ x. P (f x)) xs
  All-from_map f xs all k d within = subst P (get_or-map f xs k d (f d) within) (all k (f d) (let same = length-map xs f in omega (arith, within, same)))

  -- what holds of each part holds of all that is put together
  pub All-flat_map : (f : X → List Y) (xs : List X) → All (λ x. All P (f x)) xs → All P (flat_map f xs)
  All-flat_map f [] all = All-nil P
  All-flat_map f (x ∷ xs) all =
      All-append P (f x) (flat_map f xs) (All-head (λ x. All P (f x)) x xs all) (All-flat_map f xs (All-tail (λ x. All P (f x)) x xs all))

  -- and what holds of all that is put together holds of each part
  pub All-from_flat_map : (f : X → List Y) (xs : List X) → All P (flat_map f xs) → All (λ x. All P (f x)) xs
  All-from_flat_map f xs all =
      All-from_contains (λ x. All P (f x)) xs (λ x here.
      All-from_contains P (f x) (λ y there. All-contains P (flat_map f xs) y all (Contains-flat_map f xs x y here there)))

-- what holds of each element with its index
pub All-enumerate : {X : Type 0} (Q : ℕ × X → Type 0) (xs : List X) (n : ℕ) → ((k : ℕ) (x : X) → slice_get xs k ≡ Some x → Q (n + k, x)) → All Q (enumerate_from n xs)
All-enumerate Q [] n each = All-nil Q
All-enumerate Q (x ∷ xs) n each =
    let here : Q (n, x) = let e : n + 0 ≡ n = omega arith in subst (λ k. Q (k, x)) e (each 0 x refl) in
    All-cons Q (n, x) (enumerate_from (n + 1) xs) here
    (All-enumerate Q xs (n + 1) (λ k y is. let e : n + suc k ≡ n + 1 + k = omega arith in subst (λ j. Q (j, y)) e (each (suc k) y is)))

-- an element that passes is kept by a filter
pub Contains-filter : {X : Type 0} (test : X → Bool) (xs : List X) (x : X) → Contains xs x → test x ≡ true → Contains (filter test xs) x
Contains-filter test [] x has passes = absurd (Contains-nil x has)
Contains-filter test (y ∷ xs) x has passes = at (test y) refl (Contains-cons_cases y xs x has) (λ rest. Contains-filter test xs x rest passes)
  where
    at : (b : Bool) → test y ≡ b → (y ≡ x) ⊎ Contains xs x → (Contains xs x → Contains (filter test xs) x) → Contains (cond b (y ∷ filter test xs) (filter test xs)) x
    at true here (inl same) others = subst (Contains (y ∷ filter test xs)) same (Contains-here y (filter test xs))
    at true here (inr rest) others = Contains-later y (filter test xs) x (others rest)
    at false here (inl same) others = absurd (false≢true (sym here ∙ ap test same ∙ passes))
    at false here (inr rest) others = others rest

-- ---- bytes

pub same_bytes : (a b : List ℕ) → bytes_eq a b ≡ true → a ≡ b
same_bytes a b = (bytes_eq-Decides a b).0

pub bytes_same : (a : List ℕ) → bytes_eq a a ≡ true
bytes_same a = (bytes_eq-Decides a a).1 refl
