-- Two parts that the same kinds of tokens spell in the same way: they differ in places alone.
use Rattle.std.proofs.Common.{◌≡◌, ◌⊎◌, inl, inr, ℕ, zero, suc, ◌+◌, ◌-◌, ◌≤◌, ◌<◌, List, [], ◌∷◌, ◌++◌, length, Bool, true, false, refl, sym, ap, subst, ◌∙◌}
use Rattle.mm_lex.specs.Lexemes.{LexemeKind, Lexeme}
use Rattle.mm_forms.specs.Language.{Joined, each}
use Rattle.mm_forms.specs.Forms.{Nothing, Token, Preceded, Terminated, Numbered, Then, Or, Many, ManyNumbered, ManyBelow, Map, At, Below, Inner, empty}
use Rattle.mm_grammar.specs.Codes.{kind_code, code}
use Rattle.mm_grammar.specs.Rules.{Sort, Value, Rule}
use Rattle.mm_grammar.specs.Reading.{start}
use Rattle.mm_shape.specs.Spellings.{Spelling_of, IsOne, IsNumbered, spelled_by}

-- two tokens of this kind that spell the same, and their values
pub record Twin_of {A : Type 0} (n : ℕ) (value : Lexeme → A) (x y : A) (ks : List LexemeKind) : Type 0 where
  pub one : Lexeme
  pub other : Lexeme
  pub is : ks ≡ one.kind ∷ []
  pub same : other.kind ≡ one.kind
  pub kind_is : kind_code one.kind ≡ n
  pub one_is : x ≡ value one
  pub other_is : y ≡ value other

-- as many of the one as of the other, pair by pair
abbrev pub pairs : {A : Type 0} → (ℕ → A → A → List LexemeKind → Type 0) → ℕ → List A → List A → List LexemeKind → Type 0
pairs L k [] [] ks = ks ≡ []
pairs L k [] (y ∷ ys) ks = ⊥
pairs L k (x ∷ xs) [] ks = ⊥
pairs L k (x ∷ xs) (y ∷ ys) ks = Joined (L k x y) (pairs L (k + 1) xs ys) ks

pub pairs_length : {A : Type 0} (L : ℕ → A → A → List LexemeKind → Type 0) (k : ℕ) (xs ys : List A) (ks : List LexemeKind) → pairs L k xs ys ks → length xs ≡ length ys
pairs_length L k [] [] ks p = refl
pairs_length L k [] (y ∷ ys) ks p = absurd p
pairs_length L k (x ∷ xs) [] ks p = absurd p
pairs_length L k (x ∷ xs) (y ∷ ys) ks p = ap suc (pairs_length L (k + 1) xs ys p.back p.second)

module _ (N : (s : Sort) → Value s → Value s → List LexemeKind → Type 0) where
  abbrev pub twin : {A : Type 0} → Rule A → ℕ → A → A → List LexemeKind → Type 0
  twin (Nothing b) k x y ks = (x ≡ b) × (y ≡ b) × (ks ≡ [])
  twin (Token n value) k x y ks = Twin_of n value x y ks
  twin (Preceded n f) k x y ks = Joined (IsOne n) (twin f k x y) ks
  twin (Terminated f n) k x y ks = Joined (twin f k x y) (IsOne n) ks
  twin (Numbered n f) k x y ks = Joined (IsNumbered n k) (twin f 0 x y) ks
  twin (Then f number g) k x y ks = (number x.0 ≡ number y.0) × Joined (twin f k x.0 y.0) (twin g (number x.0) x.1 y.1) ks
  twin (Or f g) k x y ks = twin f k x y ks ⊎ twin g k x y ks
  twin (Many f) k x y ks = pairs (λ i. twin f 0) 0 x y ks
  twin (ManyNumbered f) k x y ks = pairs (twin f) 0 x y ks
  twin (ManyBelow most f) k x y ks = (length x ≤ most - k) × (length y ≤ most - k) × pairs (twin f) k x y ks
  twin (Map {A = A} make f) k x y ks = (a b : A) × (x ≡ make a) × (y ≡ make b) × twin f k a b ks
  twin (At place f) k x y ks = twin f k x.1 y.1 ks
  twin (Below most s) k x y ks = (k < most) × N s x y ks
  twin (Inner s) k x y ks = N s x y ks

  -- The numbers that are wanted behind twins are the same, and where a place is told there is a token.
  abbrev pub steady : {A : Type 0} → Rule A → Type 0
  steady (Nothing b) = Unit {0}
  steady (Token n value) = Unit {0}
  steady (Preceded n f) = steady f
  steady (Terminated f n) = steady f
  steady (Numbered n f) = steady f
  steady (Then {A = A} f number g) = ((x y : A) (k : ℕ) (ks : List LexemeKind) → twin f k x y ks → number x ≡ number y) × steady f × steady g
  steady (Or f g) = steady f × steady g
  steady (Many f) = steady f
  steady (ManyNumbered f) = steady f
  steady (ManyBelow most f) = steady f
  steady (Map make f) = steady f
  steady (At place f) = (empty code start f ≡ false) × steady f
  steady (Below most s) = Unit {0}
  steady (Inner s) = Unit {0}

  module _ (M : (s : Sort) → Value s → List LexemeKind → Type 0) where
    module _ (part : (s : Sort) (x y : Value s) (ks : List LexemeKind) → N s x y ks → M s x ks) where
      ones : {A : Type 0} (L : ℕ → A → A → List LexemeKind → Type 0) (K : ℕ → A → List LexemeKind → Type 0) → ((k : ℕ) (x y : A) (ks : List LexemeKind) → L k x y ks → K k x ks)
          → (k : ℕ) (xs ys : List A) (ks : List LexemeKind) → pairs L k xs ys ks → each K k xs ks
      ones L K item k [] [] ks p = p
      ones L K item k [] (y ∷ ys) ks p = absurd p
      ones L K item k (x ∷ xs) [] ks p = absurd p
      ones L K item k (x ∷ xs) (y ∷ ys) ks p = record { front = p.front; back = p.back; is = p.is; first = item k x y p.front p.first; second = ones L K item (k + 1) xs ys p.back p.second }

      -- the one of two twins is spelled
      pub one_spelled : {A : Type 0} (f : Rule A) (k : ℕ) (x y : A) (ks : List LexemeKind) → twin f k x y ks → spelled_by M f k x ks
      one_spelled (Nothing b) k x y ks t = (t.0, t.2)
      one_spelled (Token n value) k x y ks t = record { token = t.one; is = t.is; kind_is = t.kind_is; value_is = t.one_is }
      one_spelled (Preceded n f) k x y ks t = record { front = t.front; back = t.back; is = t.is; first = t.first; second = one_spelled f k x y t.back t.second }
      one_spelled (Terminated f n) k x y ks t = record { front = t.front; back = t.back; is = t.is; first = one_spelled f k x y t.front t.first; second = t.second }
      one_spelled (Numbered n f) k x y ks t = record { front = t.front; back = t.back; is = t.is; first = t.first; second = one_spelled f 0 x y t.back t.second }
      one_spelled (Then f number g) k x y ks t =
          record { front = t.1.front; back = t.1.back; is = t.1.is; first = one_spelled f k x.0 y.0 t.1.front t.1.first; second = one_spelled g (number x.0) x.1 y.1 t.1.back t.1.second }
      one_spelled (Or f g) k x y ks (inl t) = inl (one_spelled f k x y ks t)
      one_spelled (Or f g) k x y ks (inr t) = inr (one_spelled g k x y ks t)
      one_spelled (Many f) k x y ks t = ones _ _ (λ i. one_spelled f 0) 0 x y ks t
      one_spelled (ManyNumbered f) k x y ks t = ones _ _ (one_spelled f) 0 x y ks t
      one_spelled (ManyBelow most f) k x y ks t = (t.0, ones _ _ (one_spelled f) k x y ks t.2)
      one_spelled (Map make f) k x y ks t = (t.0, t.2, one_spelled f k t.0 t.1 ks t.4)
      one_spelled (At place f) k x y ks t = one_spelled f k x.1 y.1 ks t
      one_spelled (Below most s) k x y ks t = (t.0, part s x y ks t.1)
      one_spelled (Inner s) k x y ks t = part s x y ks t

    module _ (part : (s : Sort) (x y : Value s) (ks : List LexemeKind) → N s x y ks → M s y ks) where
      others : {A : Type 0} (L : ℕ → A → A → List LexemeKind → Type 0) (K : ℕ → A → List LexemeKind → Type 0) → ((k : ℕ) (x y : A) (ks : List LexemeKind) → L k x y ks → K k y ks)
          → (k : ℕ) (xs ys : List A) (ks : List LexemeKind) → pairs L k xs ys ks → each K k ys ks
      others L K item k [] [] ks p = p
      others L K item k [] (y ∷ ys) ks p = absurd p
      others L K item k (x ∷ xs) [] ks p = absurd p
      others L K item k (x ∷ xs) (y ∷ ys) ks p = record { front = p.front; back = p.back; is = p.is; first = item k x y p.front p.first; second = others L K item (k + 1) xs ys p.back p.second }

      -- and so is the other
      pub other_spelled : {A : Type 0} (f : Rule A) (k : ℕ) (x y : A) (ks : List LexemeKind) → twin f k x y ks → spelled_by M f k y ks
      other_spelled (Nothing b) k x y ks t = (t.1, t.2)
      other_spelled (Token n value) k x y ks t = record { token = t.other; is = t.is ∙ ap (λ z. z ∷ []) (sym t.same); kind_is = ap kind_code t.same ∙ t.kind_is; value_is = t.other_is }
      other_spelled (Preceded n f) k x y ks t = record { front = t.front; back = t.back; is = t.is; first = t.first; second = other_spelled f k x y t.back t.second }
      other_spelled (Terminated f n) k x y ks t = record { front = t.front; back = t.back; is = t.is; first = other_spelled f k x y t.front t.first; second = t.second }
      other_spelled (Numbered n f) k x y ks t = record { front = t.front; back = t.back; is = t.is; first = t.first; second = other_spelled f 0 x y t.back t.second }
      other_spelled (Then f number g) k x y ks t =
          let second = subst (λ n. spelled_by M g n y.1 t.1.back) t.0 (other_spelled g (number x.0) x.1 y.1 t.1.back t.1.second) in
          record { front = t.1.front; back = t.1.back; is = t.1.is; first = other_spelled f k x.0 y.0 t.1.front t.1.first; second = second }
      other_spelled (Or f g) k x y ks (inl t) = inl (other_spelled f k x y ks t)
      other_spelled (Or f g) k x y ks (inr t) = inr (other_spelled g k x y ks t)
      other_spelled (Many f) k x y ks t = others _ _ (λ i. other_spelled f 0) 0 x y ks t
      other_spelled (ManyNumbered f) k x y ks t = others _ _ (other_spelled f) 0 x y ks t
      other_spelled (ManyBelow most f) k x y ks t = (t.1, others _ _ (other_spelled f) k x y ks t.2)
      other_spelled (Map make f) k x y ks t = (t.1, t.3, other_spelled f k t.0 t.1 ks t.4)
      other_spelled (At place f) k x y ks t = other_spelled f k x.1 y.1 ks t
      other_spelled (Below most s) k x y ks t = (t.0, part s x y ks t.1)
      other_spelled (Inner s) k x y ks t = part s x y ks t

-- twins that nest within so many levels
module _ {A : Type 0} (level : Rule A) (parts : (A → A → List LexemeKind → Type 0) → (s : Sort) → Value s → Value s → List LexemeKind → Type 0) where
  unfoldable pub twin_within : ℕ → A → A → List LexemeKind → Type 0
  twin_within zero x y ks = ⊥
  twin_within (suc n) x y ks = twin (parts (twin_within n)) level 0 x y ks
