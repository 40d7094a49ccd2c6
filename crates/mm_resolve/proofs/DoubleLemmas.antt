-- Names that stand before already, after one more.
use Rattle.std.proofs.Common.{◌≡◌, ℕ, ◌+◌, ◌<◌, List, [], ◌∷◌, ◌++◌, length, map, take, get_or, Bool, true, false, cond, ◌||◌, if◌then◌else◌, refl, sym, ◌∙◌, ap}
use Rattle.std.proofs.lemmas.List.{append-nil, append_assoc, map-append, map_more}
use Rattle.std.specs.List.{list_any}
use Rattle.std.specs.Str.{bytes_eq}
use Rattle.mm_ast.specs.declared.names.Name.{Name}
use Rattle.mm_terms.proofs.ListLemmas.{same_bytes}
use Rattle.mm_resolve.specs.Doubles.{again, repeated, texts_of}

any-append : {X : Type 0} (test : X → Bool) (xs ys : List X) → list_any test (xs ++ ys) ≡ list_any test xs || list_any test ys
any-append test [] ys = refl
any-append test (x ∷ xs) ys = at (test x) (any-append test xs ys)
  where
    at : (b : Bool) → list_any test (xs ++ ys) ≡ list_any test xs || list_any test ys → b || list_any test (xs ++ ys) ≡ (b || list_any test xs) || list_any test ys
    at true more = refl
    at false more = more

or_false : (b : Bool) → b || false ≡ b
or_false true = refl
or_false false = refl

-- a set of names has one more after its insertion
module _ {K : Type 0} (now : K → List ℕ) (keys new : List K) (k : K) (text : List ℕ) (among : List (List ℕ)) where
  pub holds_more : new ≡ (if list_any (λ j. bytes_eq (now k) (now j)) keys then keys else keys ++ k ∷ []) → now k ≡ text → ((q : List ℕ) → list_any (λ j. bytes_eq q (now j)) keys ≡ list_any (bytes_eq q) among) → (q : List ℕ) → list_any (λ j. bytes_eq q (now j)) new ≡ list_any (bytes_eq q) (among ++ text ∷ [])
  holds_more inserted same holds q =
      ap (list_any (λ j. bytes_eq q (now j))) inserted ∙ at (list_any (λ j. bytes_eq (now k) (now j)) keys) refl ∙ sym (any-append (bytes_eq q) among (text ∷ []))
    where
      there : list_any (λ j. bytes_eq (now k) (now j)) keys ≡ true → (b : Bool) → bytes_eq q text ≡ b → list_any (λ j. bytes_eq q (now j)) keys ≡ list_any (bytes_eq q) among || (b || false)
      there has false is = holds q ∙ sym (or_false (list_any (bytes_eq q) among))
      there has true is =
          let q_is : q ≡ now k = same_bytes q text is ∙ sym same in
          let known : list_any (λ j. bytes_eq q (now j)) keys ≡ true = ap (λ p. list_any (λ j. bytes_eq p (now j)) keys) q_is ∙ has in
          known ∙ ap (λ b. b || true) (sym known ∙ holds q)

      at : (b : Bool) → list_any (λ j. bytes_eq (now k) (now j)) keys ≡ b → list_any (λ j. bytes_eq q (now j)) (cond b keys (keys ++ k ∷ [])) ≡ list_any (bytes_eq q) among || (bytes_eq q text || false)
      at true has = there has (bytes_eq q text) refl
      at false has =
          any-append (λ j. bytes_eq q (now j)) keys (k ∷ [])
          ∙ ap (λ b. b || (bytes_eq q (now k) || false)) (holds q)
          ∙ ap (λ t. list_any (bytes_eq q) among || (bytes_eq q t || false)) same

-- an empty set has the texts of no list
pub none_held : {K : Type 0} (now : K → List ℕ) (keys : List K) → keys ≡ [] → (q : List ℕ) → list_any (λ k. bytes_eq q (now k)) keys ≡ list_any (bytes_eq q) []
none_held now keys empty q = ap (list_any (λ k. bytes_eq q (now k))) empty

-- the names of two lists together
pub repeated-append : (texts : List (List ℕ)) (xs ys : List Name) → repeated texts (xs ++ ys) ≡ repeated texts xs ++ repeated (texts ++ texts_of xs) ys
repeated-append texts [] ys = ap (λ ts. repeated ts ys) (sym (append-nil texts))
repeated-append texts (x ∷ xs) ys =
    ap (λ lines. again texts x ++ lines) (repeated-append (texts ++ x.text ∷ []) xs ys)
    ∙ sym (append_assoc (again texts x) (repeated (texts ++ x.text ∷ []) xs) (repeated ((texts ++ x.text ∷ []) ++ texts_of xs) ys))
    ∙ ap (λ ts. (again texts x ++ repeated (texts ++ x.text ∷ []) xs) ++ repeated ts ys) (append_assoc texts (x.text ∷ []) (texts_of xs))

-- one name
pub repeated-one : (texts : List (List ℕ)) (name : Name) → repeated texts (name ∷ []) ≡ again texts name
repeated-one texts name = append-nil (again texts name)

-- after one more name
module _ {X : Type 0} (f : X → Name) (xs : List X) (i : ℕ) (x : X) (within : i < length xs) (at : x ≡ get_or xs i x) where
  names_more : map f (take (i + 1) xs) ≡ map f (take i xs) ++ f x ∷ []
  names_more = map_more f xs i x within ∙ ap (λ y. map f (take i xs) ++ f y ∷ []) (sym at)

  pub repeated_more : (before among : List (List ℕ)) (first old new : List ℕ) → old ≡ first ++ repeated (before ++ among) (map f (take i xs)) → new ≡ old ++ again (before ++ (among ++ texts_of (map f (take i xs)))) (f x) → new ≡ first ++ repeated (before ++ among) (map f (take (i + 1) xs))
  repeated_more before among first old new so_far added =
      let names = map f (take i xs) in
      added
      ∙ ap (λ lines. lines ++ again (before ++ (among ++ texts_of names)) (f x)) so_far
      ∙ append_assoc first (repeated (before ++ among) names) (again (before ++ (among ++ texts_of names)) (f x))
      ∙ ap (λ texts. first ++ (repeated (before ++ among) names ++ again texts (f x))) (sym (append_assoc before among (texts_of names)))
      ∙ ap (λ lines. first ++ (repeated (before ++ among) names ++ lines)) (sym (repeated-one ((before ++ among) ++ texts_of names) (f x)))
      ∙ ap (λ lines. first ++ lines) (sym (repeated-append (before ++ among) names (f x ∷ [])))
      ∙ ap (λ ns. first ++ repeated (before ++ among) ns) (sym names_more)

  pub texts_more : (among : List (List ℕ)) → (among ++ texts_of (map f (take i xs))) ++ (f x).text ∷ [] ≡ among ++ texts_of (map f (take (i + 1) xs))
  texts_more among =
      append_assoc among (texts_of (map f (take i xs))) ((f x).text ∷ [])
      ∙ ap (λ texts. among ++ texts) (sym (map-append (λ n. n.text) (map f (take i xs)) (f x ∷ [])))
      ∙ ap (λ ns. among ++ texts_of ns) (sym names_more)
