-- Forms of texts: what may be written, what it stands for, and how it is read.
use Rattle.std.specs.Prelude.{◌≡◌, ◌⊎◌, ◌<◌, ◌≤◌, ℕ, zero, suc, ◌+◌, ◌-◌, eqb, ltb, Bool, true, false, cond, ◌||◌, ◌&&◌, not, List, [], ◌∷◌, ◌++◌, length, Result, Ok, Err}
use Rattle.mm_forms.specs.Language.{Joined, each}
use Rattle.mm_forms.specs.declared.fault.Fault.{Fault}
use Rattle.mm_forms.specs.declared.fault.Fault.TheVariants.{Unfit, TooMany}

-- A form of a text over tokens T. Its parts that lead back to a whole are of the sorts S, with values V.
pub data Form (T S : Type 0) (V : S → Type 0) : Type 0 → Type 1 where
  -- nothing is written, and the value is this
  Nothing : {A : Type 0} → A → Form T S V A
  -- one token of this kind, and its value
  Token : {A : Type 0} → ℕ → (T → A) → Form T S V A
  -- one token of this kind, and then the rest
  Preceded : {A : Type 0} → ℕ → Form T S V A → Form T S V A
  -- a part, and then one token of this kind
  Terminated : {A : Type 0} → Form T S V A → ℕ → Form T S V A
  -- one token of this kind with the number that is wanted here, and then the rest
  Numbered : {A : Type 0} → ℕ → Form T S V A → Form T S V A
  -- the one and then the other, where this number is wanted, made of the value of the one
  Then : {A B : Type 0} → Form T S V A → (A → ℕ) → Form T S V B → Form T S V (A × B)
  -- the one or the other
  Or : {A : Type 0} → Form T S V A → Form T S V A → Form T S V A
  -- as many as there are, one after the other
  Many : {A : Type 0} → Form T S V A → Form T S V (List A)
  -- the same, where the number that is wanted is 0 at the first and grows by one with each
  ManyNumbered : {A : Type 0} → Form T S V A → Form T S V (List A)
  -- the same, where the number that is wanted grows from what it is, and stays below this
  ManyBelow : {A : Type 0} → ℕ → Form T S V A → Form T S V (List A)
  -- a part of which this is made
  Map : {A B : Type 0} → (A → B) → Form T S V A → Form T S V B
  -- where its first token stands, and the part
  At : {A P : Type 0} → (T → P) → Form T S V A → Form T S V (P × A)
  -- a part of this sort, which there may be only where the number that is wanted is below this
  Below : ℕ → (s : S) → Form T S V (V s)
  -- a part of this sort
  Inner : (s : S) → Form T S V (V s)

-- whether a number is in a list
abbrev pub has : ℕ → List ℕ → Bool
has n [] = false
has n (m ∷ ms) = eqb n m || has n ms

-- whether two lists have no number in common
abbrev pub apart : List ℕ → List ℕ → Bool
apart [] ms = true
apart (n ∷ ns) ms = not (has n ms) && apart ns ms

infixl 10 ◌>>=◌
abbrev pub ◌>>=◌ : {A B E : Type 0} → Result A E → (A → Result B E) → Result B E
(Ok a) >>= go = go a
(Err e) >>= go = Err e

-- what was read and the tokens behind it, or why not and the tokens from the faulty one on
abbrev pub Read : Type 0 → Type 0 → Type 0
Read T A = Result (A × List T) (Fault × List T)

module _ {T : Type 0} (kind : T → ℕ) where
  -- one token of this kind, with this value
  pub record Token_of {A : Type 0} (n : ℕ) (value : T → A) (a : A) (ts : List T) : Type 0 where
    pub token : T
    pub is : ts ≡ token ∷ []
    pub kind_is : kind token ≡ n
    pub value_is : a ≡ value token

  abbrev pub one : ℕ → List T → Type 0
  one n = Token_of n (λ t. tt {0}) (tt {0})

  -- the first token stands at this place
  abbrev pub stands_at : {P : Type 0} → (T → P) → P → List T → Type 0
  stands_at place at [] = ⊥
  stands_at place at (t ∷ ts) = at ≡ place t

  -- whether the first token is of one of these kinds
  abbrev pub begins : List ℕ → List T → Bool
  begins kinds [] = false
  begins kinds (t ∷ ts) = has (kind t) kinds

  abbrev pub past : ℕ → List T → Result (List T) (Fault × List T)
  past n [] = Err (Unfit, [])
  past n (t ∷ ts) = cond (eqb (kind t) n) (Ok ts) (Err (Unfit, t ∷ ts))

  abbrev pub past_counted : ℕ → (T → ℕ) → ℕ → List T → Result (List T) (Fault × List T)
  past_counted n number k [] = Err (Unfit, [])
  past_counted n number k (t ∷ ts) = cond (eqb (kind t) n && eqb (number t) k) (Ok ts) (Err (Unfit, t ∷ ts))

  abbrev pub token_in : {A : Type 0} → ℕ → (T → A) → List T → Read T A
  token_in n value [] = Err (Unfit, [])
  token_in n value (t ∷ ts) = cond (eqb (kind t) n) (Ok (value t, ts)) (Err (Unfit, t ∷ ts))

  abbrev pub place_in : {P : Type 0} → (T → P) → List T → Result P (Fault × List T)
  place_in place [] = Err (Unfit, [])
  place_in place (t ∷ ts) = Ok (place t)

  -- the things that stand one after the other, while the next token begins one; the first of them is the k-th
  abbrev pub each_in : {A : Type 0} → (List T → Bool) → (ℕ → List T → Read T A) → ℕ → ℕ → List T → Read T (List A)
  each_in test read zero k ts = Ok ([], ts)
  each_in test read (suc n) k ts = cond (test ts) (read k ts >>= λ x. each_in test read n (k + 1) x.1 >>= λ xs. Ok (x.0 ∷ xs.0, xs.1)) (Ok ([], ts))

  module _ {S : Type 0} {V : S → Type 0} where
    module _ (number_of : T → ℕ) (limited : Bool) (spelled : (s : S) → V s → List T → Type 0) where
      -- these tokens spell it, where this number is wanted; limits of numbers count or not
      abbrev pub spells : {A : Type 0} → Form T S V A → ℕ → A → List T → Type 0
      spells (Nothing b) k a ts = (a ≡ b) × (ts ≡ [])
      spells (Token n value) k a ts = Token_of n value a ts
      spells (Preceded n f) k a ts = Joined (one n) (spells f k a) ts
      spells (Terminated f n) k a ts = Joined (spells f k a) (one n) ts
      spells (Numbered n f) k a ts = Joined (Token_of n number_of k) (spells f 0 a) ts
      spells (Then f number g) k a ts = Joined (spells f k a.0) (spells g (number a.0) a.1) ts
      spells (Or f g) k a ts = spells f k a ts ⊎ spells g k a ts
      spells (Many f) k a ts = each (λ i. spells f 0) 0 a ts
      spells (ManyNumbered f) k a ts = each (spells f) 0 a ts
      spells (ManyBelow most f) k a ts = (length a ≤ most - k) × each (spells f) k a ts
      spells (Map {A = B} make f) k a ts = (b : B) × (a ≡ make b) × spells f k b ts
      spells (At place f) k a ts = spells f k a.1 ts × stands_at place a.0 ts
      spells (Below most s) k a ts = (limited ≡ true → k < most) × spelled s a ts
      spells (Inner s) k a ts = spelled s a ts

      module _ (opened : S → List T → Type 0) (crossed : (s : S) → Fault → List T → Type 0) where
        -- these tokens are the front of what spells it, and the last of them goes past a limit
        abbrev pub crosses : {A : Type 0} → Form T S V A → ℕ → Fault → List T → Type 0
        crosses (Nothing b) k x ts = ⊥
        crosses (Token n value) k x ts = ⊥
        crosses (Preceded n f) k x ts = Joined (one n) (crosses f k x) ts
        crosses (Terminated f n) k x ts = crosses f k x ts
        crosses (Numbered n f) k x ts = Joined (Token_of n number_of k) (crosses f 0 x) ts
        crosses (Then {A = A} f number g) k x ts = crosses f k x ts ⊎ ((a : A) × Joined (spells f k a) (crosses g (number a) x) ts)
        crosses (Or f g) k x ts = crosses f k x ts ⊎ crosses g k x ts
        crosses (Many {A = A} f) k x ts = (before : List A) × Joined (each (λ i. spells f 0) 0 before) (crosses f 0 x) ts
        crosses (ManyNumbered {A = A} f) k x ts = (before : List A) × Joined (each (spells f) 0 before) (crosses f (0 + length before) x) ts
        crosses (ManyBelow {A = A} most f) k x ts = (before : List A) × (length before < most - k) × Joined (each (spells f) k before) (crosses f (k + length before) x) ts
        crosses (Map make f) k x ts = crosses f k x ts
        crosses (At place f) k x ts = crosses f k x ts
        crosses (Below most s) k x ts = ((k < most) × crossed s x ts) ⊎ ((most ≤ k) × (x ≡ TooMany) × opened s ts)
        crosses (Inner s) k x ts = crossed s x ts

    module _ (start : S → List ℕ) where
      -- whether nothing may be written
      abbrev pub empty : {A : Type 0} → Form T S V A → Bool
      empty (Nothing b) = true
      empty (Token n value) = false
      empty (Preceded n f) = false
      empty (Terminated f n) = false
      empty (Numbered n f) = false
      empty (Then f number g) = empty f && empty g
      empty (Or f g) = empty f || empty g
      empty (Many f) = true
      empty (ManyNumbered f) = true
      empty (ManyBelow most f) = true
      empty (Map make f) = empty f
      empty (At place f) = empty f
      empty (Below most s) = false
      empty (Inner s) = false

      -- the kinds of tokens with which it may begin
      abbrev pub firsts : {A : Type 0} → Form T S V A → List ℕ
      firsts (Nothing b) = []
      firsts (Token n value) = n ∷ []
      firsts (Preceded n f) = n ∷ []
      firsts (Terminated f n) = firsts f ++ cond (empty f) (n ∷ []) []
      firsts (Numbered n f) = n ∷ []
      firsts (Then f number g) = firsts f ++ cond (empty f) (firsts g) []
      firsts (Or f g) = firsts f ++ firsts g
      firsts (Many f) = firsts f
      firsts (ManyNumbered f) = firsts f
      firsts (ManyBelow most f) = firsts f
      firsts (Map make f) = firsts f
      firsts (At place f) = firsts f
      firsts (Below most s) = start s
      firsts (Inner s) = start s

      -- How it is read from the front of the tokens, where this number is wanted.
      module _ (number_of : T → ℕ) (inner : (s : S) → List T → Read T (V s)) where
        abbrev pub reads : {A : Type 0} → Form T S V A → ℕ → List T → Read T A
        reads (Nothing b) k ts = Ok (b, ts)
        reads (Token n value) k ts = token_in n value ts
        reads (Preceded n f) k ts = past n ts >>= λ rest. reads f k rest
        reads (Terminated f n) k ts = reads f k ts >>= λ a. past n a.1 >>= λ rest. Ok (a.0, rest)
        reads (Numbered n f) k ts = past_counted n number_of k ts >>= λ rest. reads f 0 rest
        reads (Then f number g) k ts = reads f k ts >>= λ a. reads g (number a.0) a.1 >>= λ b. Ok ((a.0, b.0), b.1)
        reads (Or f g) k ts = cond (begins (firsts f) ts) (reads f k ts) (reads g k ts)
        reads (Many f) k ts = each_in (begins (firsts f)) (λ i. reads f 0) (length ts) 0 ts
        reads (ManyNumbered f) k ts = each_in (begins (firsts f)) (reads f) (length ts) 0 ts
        reads (ManyBelow most f) k ts = each_in (begins (firsts f)) (reads f) (most - k) k ts
        reads (Map make f) k ts = reads f k ts >>= λ a. Ok (make a.0, a.1)
        reads (At place f) k ts = place_in place ts >>= λ p. reads f k ts >>= λ a. Ok ((p, a.0), a.1)
        reads (Below most s) k ts = cond (ltb k most || not (begins (start s) ts)) (inner s ts) (Err (TooMany, ts))
        reads (Inner s) k ts = inner s ts

      -- One token decides how it is read.
      module _ (goes_on : S → List ℕ) (is_kind : ℕ → Bool) (is_counted : ℕ → Bool) where
        -- the kinds of tokens that would go on with it
        abbrev pub more : {A : Type 0} → Form T S V A → List ℕ
        more (Nothing b) = []
        more (Token n value) = []
        more (Preceded n f) = more f
        more (Terminated f n) = []
        more (Numbered n f) = more f
        more (Then f number g) = more g ++ cond (empty g) (more f) []
        more (Or f g) = (more f ++ more g) ++ cond (empty g) (firsts f) []
        more (Many f) = firsts f ++ more f
        more (ManyNumbered f) = firsts f ++ more f
        more (ManyBelow most f) = firsts f ++ more f
        more (Map make f) = more f
        more (At place f) = more f
        more (Below most s) = goes_on s
        more (Inner s) = goes_on s

        module _ (known : S → Bool) where
          -- one token decides, and the parts are of the sorts that are known
          abbrev pub decides : {A : Type 0} → Form T S V A → Bool
          decides (Nothing b) = true
          decides (Token n value) = is_kind n
          decides (Preceded n f) = is_kind n && decides f
          decides (Terminated f n) = is_kind n && decides f && apart (more f) (n ∷ [])
          decides (Numbered n f) = is_counted n && decides f
          decides (Then f number g) = decides f && decides g && apart (more f) (firsts g)
          decides (Or f g) = decides f && decides g && not (empty f) && apart (firsts f) (firsts g)
          decides (Many f) = decides f && not (empty f) && apart (more f) (firsts f)
          decides (ManyNumbered f) = decides f && not (empty f) && apart (more f) (firsts f)
          decides (ManyBelow most f) = decides f && not (empty f) && apart (more f) (firsts f)
          decides (Map make f) = decides f
          decides (At place f) = decides f && not (empty f)
          decides (Below most s) = known s
          decides (Inner s) = known s
