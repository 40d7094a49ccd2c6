-- How names resolve, also after one more name.
use Rattle.std.proofs.Common.{◌≡◌, ℕ, suc, ◌+◌, ◌<◌, ◌≤◌, List, [], ◌∷◌, ◌++◌, length, map, take, get_or, Bool, true, false, cond, Option, None, Some, is_some, not, ◌||◌, refl, sym, ◌∙◌, ap, subst, inl, inr, arith}
use Rattle.std.proofs.Math.Bool.{not-not}
use Rattle.std.proofs.lemmas.Bool.{cases_Bool, false≢true, cond-true, cond-false}
use Rattle.std.proofs.lemmas.List.{take_more, take_all, length-take-le}
use Rattle.std.specs.Option.{option_map, option_or}
use Rattle.std.specs.List.{list_any}
use Rattle.std.specs.Str.{bytes_eq}
use Rattle.mm_terms.proofs.ListLemmas.{same_bytes, bytes_same}
use Rattle.mm_load_plain.specs.Names.{Names, index_of}

bytes_turned : (a b : List ℕ) → bytes_eq a b ≡ false → bytes_eq b a ≡ false
bytes_turned a b h = elim (cases_Bool (bytes_eq b a)) [
  | inl same ↦ absurd (false≢true (sym h ∙ subst (λ c. bytes_eq a c ≡ true) (sym (same_bytes b a same)) (bytes_same a)))
  | inr other ↦ other
]

step : (b c : Bool) (o r : Option ℕ) (k : ℕ) → r ≡ option_or o (cond c (Some k) None) → cond b (Some 0) (option_map suc r) ≡ option_or (cond b (Some 0) (option_map suc o)) (cond c (Some (suc k)) None)
step true c o r k h = refl
step false true None r k h = ap (option_map suc) h
step false false None r k h = ap (option_map suc) h
step false c (Some i) r k h = ap (option_map suc) h

-- one more name
pub index_of_push : (ns : List (List ℕ)) (n q : List ℕ) → index_of (ns ++ n ∷ []) q ≡ option_or (index_of ns q) (cond (bytes_eq q n) (Some (length ns)) None)
index_of_push [] n q = refl
index_of_push (m ∷ ns) n q = step (bytes_eq q m) (bytes_eq q n) (index_of ns q) (index_of (ns ++ n ∷ []) q) (length ns) (index_of_push ns n q)

or_none : (o : Option ℕ) → option_or o None ≡ o
or_none None = refl
or_none (Some x) = refl

or_some : (o p : Option ℕ) → is_some o ≡ true → option_or o p ≡ o
or_some None p h = absurd (false≢true h)
or_some (Some x) p h = refl

none_or : (o p : Option ℕ) → is_some o ≡ false → option_or o p ≡ p
none_or None p h = refl
none_or (Some x) p h = absurd (false≢true (sym h))

module _ (old : Names) (name : List ℕ) (index : ℕ) where
  -- a name that resolves to an index resolves to it still
  pub noted_before : is_some (old name) ≡ true → (q : List ℕ) → old q ≡ option_or (old q) (cond (bytes_eq q name) (Some index) None)
  noted_before there q = elim (cases_Bool (bytes_eq q name)) [
    | inl same ↦ sym (or_some (old q) (cond (bytes_eq q name) (Some index) None) (subst (λ n. is_some (old n) ≡ true) (sym (same_bytes q name same)) there))
    | inr other ↦ sym (ap (option_or (old q)) (cond-false (bytes_eq q name) (Some index) None other) ∙ or_none (old q))
  ]

  pub noted_now : (new : Names) → is_some (old name) ≡ false → ((q : List ℕ) → new q ≡ cond (bytes_eq name q) (Some index) (old q)) → (q : List ℕ) → new q ≡ option_or (old q) (cond (bytes_eq q name) (Some index) None)
  noted_now new absent after q = elim (cases_Bool (bytes_eq q name)) [
    | inl same ↦ (
        let e : q ≡ name = same_bytes q name same in
        after q ∙ cond-true (bytes_eq name q) (Some index) (old q) (subst (λ n. bytes_eq name n ≡ true) (sym e) (bytes_same name))
        ∙ sym (none_or (old q) (cond (bytes_eq q name) (Some index) None) (subst (λ n. is_some (old n) ≡ false) (sym e) absent) ∙ cond-true (bytes_eq q name) (Some index) None same))
    | inr other ↦ (
        after q ∙ cond-false (bytes_eq name q) (Some index) (old q) (bytes_turned q name other)
        ∙ sym (ap (option_or (old q)) (cond-false (bytes_eq q name) (Some index) None other) ∙ or_none (old q)))
  ]

module _ (ns : List (List ℕ)) (i : ℕ) where
  -- a table of the first names, after one more
  pub table_more : (old new : Names) (n : List ℕ) → ((q : List ℕ) → old q ≡ index_of (take i ns) q) → i < length ns → n ≡ get_or ns i n → ((q : List ℕ) → new q ≡ option_or (old q) (cond (bytes_eq q n) (Some i) None)) → (q : List ℕ) → new q ≡ index_of (take (i + 1) ns) q
  table_more old new n so_far l at after q =
      let more : take (i + 1) ns ≡ take i ns ++ n ∷ [] = take_more ns i n l ∙ ap (λ m. take i ns ++ m ∷ []) (sym at) in
      let long : length (take i ns) ≡ i = length-take-le i ns (omega arith) in
      after q
      ∙ ap (λ o. option_or o (cond (bytes_eq q n) (Some i) None)) (so_far q)
      ∙ ap (λ k. option_or (index_of (take i ns) q) (cond (bytes_eq q n) (Some k) None)) (sym long)
      ∙ sym (index_of_push (take i ns) n q)
      ∙ ap (λ l. index_of l q) (sym more)

  pub table_all : (at : Names) → ((q : List ℕ) → at q ≡ index_of (take i ns) q) → length ns ≤ i → at ≡ index_of ns
  table_all at so_far l = λ j q. (so_far q ∙ ap (λ m. index_of m q) (take_all i ns l)) j

list_any-map : {A B : Type 0} (p : B → Bool) (f : A → B) (xs : List A) → list_any p (map f xs) ≡ list_any (λ x. p (f x)) xs
list_any-map p f [] = refl
list_any-map p f (x ∷ xs) = ap (λ b. p (f x) || b) (list_any-map p f xs)

-- what an insertion answers of a name that it finds
pub was_there : {K : Type 0} (now : K → List ℕ) (keys : List K) (name other : List ℕ) (new : Bool) → new ≡ not (list_any (λ k. bytes_eq name (now k)) keys) → name ≡ other → not new ≡ list_any (bytes_eq other) (map now keys)
was_there now keys name other new reports same =
    ap not reports ∙ not-not (list_any (λ k. bytes_eq name (now k)) keys) ∙ sym (list_any-map (bytes_eq name) now keys) ∙ ap (λ n. list_any (bytes_eq n) (map now keys)) same
