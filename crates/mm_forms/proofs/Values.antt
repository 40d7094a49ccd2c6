-- What is known of a value from the form that spells it alone, where each of the tokens keeps a rule.
use Rattle.std.proofs.Common.{◌≡◌, ◌⊎◌, inl, inr, ℕ, suc, ◌+◌, ◌-◌, ◌<◌, ◌≤◌, List, [], ◌∷◌, ◌++◌, length, Bool, true, refl, sym, subst, arith}
use Rattle.std.specs.Prelude.{All, ⊤}
use Rattle.std.proofs.lemmas.List.Elements.{All-nil, All-cons}
use Rattle.mm_forms.specs.Language.{Joined, each}
use Rattle.mm_forms.specs.Forms.{Form, Nothing, Token, Preceded, Terminated, Numbered, Then, Or, Many, ManyNumbered, ManyBelow, Map, At, Below, Inner, Token_of, spells}

-- each of the things, the first of which is the k-th
abbrev pub all_from : {A : Type 0} → (ℕ → A → Type 0) → ℕ → List A → Type 0
all_from P k [] = ⊤
all_from P k (x ∷ xs) = P k x × all_from P (k + 1) xs

-- the same without numbers
abbrev pub every : {A : Type 0} → (A → Type 0) → List A → Type 0
every P = all_from (λ i. P) 0

pub all_from-all : {A : Type 0} (P : ℕ → A → Type 0) (Q : A → Type 0) → ((i : ℕ) (a : A) → P i a → Q a) → (k : ℕ) (xs : List A) → all_from P k xs → All Q xs
all_from-all P Q to k [] all = All-nil Q
all_from-all P Q to k (x ∷ xs) all = All-cons Q x xs (to k x all.0) (all_from-all P Q to (k + 1) xs all.1)

-- where no number is past a bound, there are no more things
pub all_from-few : {A : Type 0} (P : ℕ → A → Type 0) (most : ℕ) → ((i : ℕ) (a : A) → P i a → i < most) → (k : ℕ) → k ≤ most → (xs : List A) → all_from P k xs → k + length xs ≤ most
all_from-few P most below k low [] all = omega (arith, low)
all_from-few P most below k low (x ∷ xs) all =
    let here = below k x all.0 in
    let rest = all_from-few P most below (k + 1) (omega (arith, here)) xs all.1 in
    omega (arith, rest)

module _ {T : Type 0} (Fine : T → Type 0) where
  fine_at : (k j : ℕ) (ts : List T) → all_from (λ i. Fine) k ts → all_from (λ i. Fine) j ts
  fine_at k j [] fine = fine
  fine_at k j (t ∷ ts) fine = (fine.0, fine_at (k + 1) (j + 1) ts fine.1)

  fine_front : (k : ℕ) (ts us : List T) → all_from (λ i. Fine) k (ts ++ us) → every Fine ts
  fine_front k [] us fine = tt
  fine_front k (t ∷ ts) us fine = (fine.0, fine_at 0 1 ts (fine_front (k + 1) ts us fine.1))

  fine_back : (k : ℕ) (ts us : List T) → all_from (λ i. Fine) k (ts ++ us) → every Fine us
  fine_back k [] us fine = fine_at k 0 us fine
  fine_back k (t ∷ ts) us fine = fine_back (k + 1) ts us fine.1

  module _ (kind : T → ℕ) where
    -- one token that is fine, with this value
    pub record IsTokenOf {A : Type 0} (n : ℕ) (value : T → A) (a : A) : Type 0 where
      pub token : T
      pub fine : Fine token
      pub kind_is : kind token ≡ n
      pub value_is : a ≡ value token

    token_fine : {A : Type 0} (n : ℕ) (value : T → A) (a : A) (ts : List T) → every Fine ts → Token_of kind n value a ts → IsTokenOf n value a
    token_fine n value a ts fine s = record { token = s.token; fine = (subst (every Fine) s.is fine).0; kind_is = s.kind_is; value_is = s.value_is }

  -- what holds of each value that fine tokens spell
  abbrev pub Over : {A : Type 0} → (A → List T → Type 0) → (A → Type 0) → Type 0
  Over {A = A} L M = (a : A) (ts : List T) → every Fine ts → L a ts → M a

  module _ (kind number_of : T → ℕ) {S : Type 0} {V : S → Type 0} (P : (s : S) → V s → Type 0) where
    -- what a value is that the form spells over fine tokens, where a part of each sort is as P says
    abbrev pub made_of : {A : Type 0} → Form T S V A → ℕ → A → Type 0
    made_of (Nothing b) k a = a ≡ b
    made_of (Token n value) k a = IsTokenOf kind n value a
    made_of (Preceded n f) k a = made_of f k a
    made_of (Terminated f n) k a = made_of f k a
    made_of (Numbered n f) k a = made_of f 0 a
    made_of (Then f number g) k a = made_of f k a.0 × made_of g (number a.0) a.1
    made_of (Or f g) k a = made_of f k a ⊎ made_of g k a
    made_of (Many f) k a = all_from (λ i. made_of f 0) 0 a
    made_of (ManyNumbered f) k a = all_from (made_of f) 0 a
    made_of (ManyBelow most f) k a = (length a ≤ most - k) × all_from (made_of f) k a
    made_of (Map {A = B} make f) k a = (b : B) × (a ≡ make b) × made_of f k b
    made_of (At place f) k a = made_of f k a.1
    made_of (Below most s) k a = (k < most) × P s a
    made_of (Inner s) k a = P s a

    module _ (spelled : (s : S) → V s → List T → Type 0) (parts : (s : S) → Over (spelled s) (P s)) where
      each_made : {A : Type 0} (L : ℕ → A → List T → Type 0) (M : ℕ → A → Type 0) → ((i : ℕ) → Over (L i) (M i)) → (k : ℕ) (xs : List A) (ts : List T) → every Fine ts → each L k xs ts → all_from M k xs
      each_made L M one k [] ts fine s = tt
      each_made L M one k (x ∷ xs) ts fine s =
          let whole = subst (every Fine) s.is fine in
          (one k x s.front (fine_front 0 s.front s.back whole) s.first, each_made L M one (k + 1) xs s.back (fine_back 0 s.front s.back whole) s.second)

      pub made : {A : Type 0} (f : Form T S V A) (k : ℕ) → Over (spells kind number_of true spelled f k) (made_of f k)
      made (Nothing b) k a ts fine s = s.0
      made (Token n value) k a ts fine s = token_fine kind n value a ts fine s
      made (Preceded n f) k a ts fine s = made f k a s.back (fine_back 0 s.front s.back (subst (every Fine) s.is fine)) s.second
      made (Terminated f n) k a ts fine s = made f k a s.front (fine_front 0 s.front s.back (subst (every Fine) s.is fine)) s.first
      made (Numbered n f) k a ts fine s = made f 0 a s.back (fine_back 0 s.front s.back (subst (every Fine) s.is fine)) s.second
      made (Then f number g) k a ts fine s =
          let whole = subst (every Fine) s.is fine in
          (made f k a.0 s.front (fine_front 0 s.front s.back whole) s.first, made g (number a.0) a.1 s.back (fine_back 0 s.front s.back whole) s.second)
      made (Or f g) k a ts fine s = elim s [
        | inl s ↦ inl (made f k a ts fine s)
        | inr s ↦ inr (made g k a ts fine s)
      ]
      made (Many f) k a ts fine s = each_made (λ i. spells kind number_of true spelled f 0) (λ i. made_of f 0) (λ i. made f 0) 0 a ts fine s
      made (ManyNumbered f) k a ts fine s = each_made (spells kind number_of true spelled f) (made_of f) (made f) 0 a ts fine s
      made (ManyBelow most f) k a ts fine s = (s.0, each_made (spells kind number_of true spelled f) (made_of f) (made f) k a ts fine s.1)
      made (Map make f) k a ts fine s = (s.0, s.1, made f k s.0 ts fine s.2)
      made (At place f) k a ts fine s = made f k a.1 ts fine s.0
      made (Below most s') k a ts fine s = (s.0 refl, parts s' a ts fine s.1)
      made (Inner s') k a ts fine s = parts s' a ts fine s
