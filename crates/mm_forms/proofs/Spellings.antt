-- What follows of spellings alone: wider languages, common bounds, and what goes past a limit.
use Rattle.std.proofs.Common.{◌≡◌, ◌⊎◌, inl, inr, ℕ, ◌+◌, ◌<◌, ◌≤◌, List, [], ◌∷◌, ◌++◌, length, Bool, true, false, cond, ◌&&◌, ◌||◌, not, eqb, ltb, refl, sym, ◌∙◌, ap, subst, append_assoc, arith}
use Rattle.std.proofs.lemmas.Bool.{cases_Bool, ltb-true, ltb-false, or_left, eq-eqb, and_parts, not-true}
use Rattle.mm_forms.specs.declared.fault.Fault.{Fault}
use Rattle.mm_forms.specs.declared.fault.Fault.TheVariants.{TooMany}
use Rattle.mm_forms.specs.Language.{Joined, each, Opens}
use Rattle.mm_forms.proofs.Laws.{Begins, begins_joined, begins_left, begins_right}
use Rattle.mm_forms.proofs.Parts.{never_empty}
use Rattle.mm_forms.specs.Forms.{empty, firsts, Form, Nothing, Token, Preceded, Terminated, Numbered, Then, Or, Many, ManyNumbered, ManyBelow, Map, At, Below, Inner, apart, Token_of, spells, crosses, decides, more}

module _ {T : Type 0} where
  each_wider : {A : Type 0} {M N : ℕ → A → List T → Type 0} → ((k : ℕ) (a : A) (ts : List T) → M k a ts → N k a ts) → (k : ℕ) (xs : List A) (ts : List T) → each M k xs ts → each N k xs ts
  each_wider w k [] ts s = s
  each_wider w k (x ∷ xs) ts s = record { front = s.front; back = s.back; is = s.is; first = w k x s.front s.first; second = each_wider w (k + 1) xs s.back s.second }

  abbrev pub Crossing : (Fault → List T → Type 0) → List T → Type 0
  Crossing D ts = (x : Fault) × (front : List T) × (behind : List T) × (ts ≡ front ++ behind) × D x front

  behind_it : {D G : Fault → List T → Type 0} (first back ts : List T) → ts ≡ first ++ back → ((x : Fault) (front : List T) → D x front → G x (first ++ front)) → Crossing D back → Crossing G ts
  behind_it first back ts is to c = (c.0, first ++ c.1, c.2, is ∙ ap (λ z. first ++ z) c.3 ∙ sym (append_assoc first c.1 c.2), to c.0 c.1 c.4)

  before_it : {D G : Fault → List T → Type 0} (front back ts : List T) → ts ≡ front ++ back → ((x : Fault) (us : List T) → D x us → G x us) → Crossing D front → Crossing G ts
  before_it front back ts is to c = (c.0, c.1, c.2 ++ back, is ∙ ap (λ z. z ++ back) c.3 ∙ append_assoc c.1 c.2 back, to c.0 c.1 c.4)

  -- the things up to the first that goes past a limit
  abbrev Cross_each : {A : Type 0} → (ℕ → A → List T → Type 0) → (ℕ → Fault → List T → Type 0) → ℕ → ℕ → Fault → List T → Type 0
  Cross_each {A = A} M D n k x ts = (before : List A) × (length before < n) × Joined (each M k before) (D (k + length before) x) ts

  split_each : {A : Type 0} (M N : ℕ → A → List T → Type 0) (D : ℕ → Fault → List T → Type 0) → ((k : ℕ) (a : A) (ts : List T) → N k a ts → M k a ts ⊎ Crossing (D k) ts)
      → (k : ℕ) (xs : List A) (ts : List T) → each N k xs ts → each M k xs ts ⊎ Crossing (Cross_each M D (length xs) k) ts
  split_each M N D one k [] ts s = inl s
  split_each {A = A} M N D one k (x ∷ xs) ts s = elim (one k x s.front s.first) [
    | inr c ↦ inr (before_it s.front s.back ts s.is (λ y us d.
        let here : k ≡ k + length {A = A} [] = omega arith in
        ([], omega arith, record { front = []; back = us; is = refl; first = refl; second = subst (λ i. D i y us) here d })) c)
    | inl m ↦ (elim (split_each M N D one (k + 1) xs s.back s.second) [
      | inl ms ↦ inl (record { front = s.front; back = s.back; is = s.is; first = m; second = ms })
      | inr c ↦ inr (behind_it s.front s.back ts s.is (λ y us d.
          let l = d.1 in
          let j = d.2 in
          let there : (k + 1) + length d.0 ≡ k + length (x ∷ d.0) = omega arith in (
            x ∷ d.0,
            omega (arith, l),
            record {
              front = s.front ++ j.front;
              back = j.back;
              is = ap (λ z. s.front ++ z) j.is ∙ sym (append_assoc s.front j.front j.back);
              first = record { front = s.front; back = j.front; is = refl; first = m; second = j.first };
              second = subst (λ i. D i y j.back) there j.second;
            },
          )) c)
    ])
  ]

  crossed_in : {D G : Fault → List T → Type 0} (ts : List T) → ((x : Fault) (us : List T) → D x us → G x us) → Crossing D ts → Crossing G ts
  crossed_in ts to c = (c.0, c.1, c.2, c.3, to c.0 c.1 c.4)

module _ {T : Type 0} (kind number_of : T → ℕ) {S : Type 0} {V : S → Type 0} where
  -- what is spelled within the limits is spelled without, and in a wider language too
  pub wider : (E F : (s : S) → V s → List T → Type 0) → ((s : S) (v : V s) (ts : List T) → E s v ts → F s v ts) → {A : Type 0} (f : Form T S V A) (b : Bool) (k : ℕ) (a : A) (ts : List T) → spells kind number_of b E f k a ts → spells kind number_of false F f k a ts
  wider E F w (Nothing c) b k a ts s = s
  wider E F w (Token n value) b k a ts s = s
  wider E F w (Preceded n f) b k a ts s = record { front = s.front; back = s.back; is = s.is; first = s.first; second = wider E F w f b k a s.back s.second }
  wider E F w (Terminated f n) b k a ts s = record { front = s.front; back = s.back; is = s.is; first = wider E F w f b k a s.front s.first; second = s.second }
  wider E F w (Numbered n f) b k a ts s = record { front = s.front; back = s.back; is = s.is; first = s.first; second = wider E F w f b 0 a s.back s.second }
  wider E F w (Then f number g) b k a ts s = record { front = s.front; back = s.back; is = s.is; first = wider E F w f b k a.0 s.front s.first; second = wider E F w g b (number a.0) a.1 s.back s.second }
  wider E F w (Or f g) b k a ts s = elim s [ inl s ↦ inl (wider E F w f b k a ts s) | inr s ↦ inr (wider E F w g b k a ts s) ]
  wider E F w (Many f) b k a ts s = each_wider (λ i x us. wider E F w f b 0 x us) 0 a ts s
  wider E F w (ManyNumbered f) b k a ts s = each_wider (λ i x us. wider E F w f b i x us) 0 a ts s
  wider E F w (ManyBelow most f) b k a ts s = (s.0, each_wider (λ i x us. wider E F w f b i x us) k a ts s.1)
  wider E F w (Map make f) b k a ts s = (s.0, s.1, wider E F w f b k s.0 ts s.2)
  wider E F w (At place f) b k a ts s = (wider E F w f b k a.1 ts s.0, s.1)
  wider E F w (Below most s') b k a ts s = (λ e. cc, w s' a ts s.1)
  wider E F w (Inner s') b k a ts s = w s' a ts s

  -- Where parts are spelled under some bound each, all are spelled under a common one.
  module _ (E : ℕ → (s : S) → V s → List T → Type 0) (up : (m n : ℕ) → m ≤ n → (s : S) (v : V s) (ts : List T) → E m s v ts → E n s v ts) where
    abbrev pub Under : (s : S) → V s → List T → Type 0
    Under s v ts = (m : ℕ) × E m s v ts

    abbrev Some : {A : Type 0} → Form T S V A → ℕ → A → List T → Type 0
    Some f k a ts = (m : ℕ) × spells kind number_of false (E m) f k a ts

    higher : (m n : ℕ) → m ≤ n → {A : Type 0} (f : Form T S V A) (k : ℕ) (a : A) (ts : List T) → spells kind number_of false (E m) f k a ts → spells kind number_of false (E n) f k a ts
    higher m n l f k a ts s = wider (E m) (E n) (up m n l) f false k a ts s

    each_higher : (m n : ℕ) → m ≤ n → {A : Type 0} (f : Form T S V A) (to : ℕ → ℕ) (k : ℕ) (xs : List A) (ts : List T) → each (λ i. spells kind number_of false (E m) f (to i)) k xs ts → each (λ i. spells kind number_of false (E n) f (to i)) k xs ts
    each_higher m n l f to k xs ts s = each_wider (λ i x us. higher m n l f (to i) x us) k xs ts s

    each_together : {A : Type 0} (f : Form T S V A) (to : ℕ → ℕ) → ((k : ℕ) (a : A) (ts : List T) → spells kind number_of false Under f k a ts → Some f k a ts)
        → (k : ℕ) (xs : List A) (ts : List T) → each (λ i. spells kind number_of false Under f (to i)) k xs ts → (m : ℕ) × each (λ i. spells kind number_of false (E m) f (to i)) k xs ts
    each_together f to one k [] ts s = (0, s)
    each_together f to one k (x ∷ xs) ts s =
        let p = one (to k) x s.front s.first in
        let q = each_together f to one (k + 1) xs s.back s.second in
        let n = p.0 + q.0 in
        (n, record { front = s.front; back = s.back; is = s.is; first = higher p.0 n (omega arith) f (to k) x s.front p.1; second = each_higher q.0 n (omega arith) f to (k + 1) xs s.back q.1 })

    pub together : {A : Type 0} (f : Form T S V A) (k : ℕ) (a : A) (ts : List T) → spells kind number_of false Under f k a ts → Some f k a ts
    together (Nothing c) k a ts s = (0, s)
    together (Token n value) k a ts s = (0, s)
    together (Preceded n f) k a ts s = let p = together f k a s.back s.second in (p.0, record { front = s.front; back = s.back; is = s.is; first = s.first; second = p.1 })
    together (Terminated f n) k a ts s = let p = together f k a s.front s.first in (p.0, record { front = s.front; back = s.back; is = s.is; first = p.1; second = s.second })
    together (Numbered n f) k a ts s = let p = together f 0 a s.back s.second in (p.0, record { front = s.front; back = s.back; is = s.is; first = s.first; second = p.1 })
    together (Then f number g) k a ts s =
        let p = together f k a.0 s.front s.first in
        let q = together g (number a.0) a.1 s.back s.second in
        let n = p.0 + q.0 in
        (n, record { front = s.front; back = s.back; is = s.is; first = higher p.0 n (omega arith) f k a.0 s.front p.1; second = higher q.0 n (omega arith) g (number a.0) a.1 s.back q.1 })
    together (Or f g) k a ts s = elim s [ inl s ↦ (let p = together f k a ts s in (p.0, inl p.1)) | inr s ↦ (let p = together g k a ts s in (p.0, inr p.1)) ]
    together (Many f) k a ts s = each_together f (λ i. 0) (together f) 0 a ts s
    together (ManyNumbered f) k a ts s = each_together f (λ i. i) (together f) 0 a ts s
    together (ManyBelow most f) k a ts s = let p = each_together f (λ i. i) (together f) k a ts s.1 in (p.0, (s.0, p.1))
    together (Map make f) k a ts s = let p = together f k s.0 ts s.2 in (p.0, (s.0, s.1, p.1))
    together (At place f) k a ts s = let p = together f k a.1 ts s.0 in (p.0, (p.1, s.1))
    together (Below most s') k a ts s = (s.1.0, (s.0, s.1.1))
    together (Inner s') k a ts s = s

  -- What is spelled is within the limits, or a front of it goes past one.
  module _ (E F : (s : S) → V s → List T → Type 0) (C : (s : S) → Fault → List T → Type 0) where
    abbrev pub Splits : {A : Type 0} → Form T S V A → ℕ → A → List T → Type 0
    Splits f k a ts = spells kind number_of true E f k a ts ⊎ Crossing (crosses kind number_of true E (λ s. Opens (F s)) C f k) ts

    module _ (inner : (s : S) (v : V s) (ts : List T) → F s v ts → E s v ts ⊎ Crossing (C s) ts) (opens : (s : S) (v : V s) (ts : List T) → F s v ts → (front : List T) × (behind : List T) × (ts ≡ front ++ behind) × Opens (F s) front) where
      pub splits : {A : Type 0} (f : Form T S V A) (k : ℕ) (a : A) (ts : List T) → spells kind number_of false F f k a ts → Splits f k a ts
      splits (Nothing c) k a ts s = inl s
      splits (Token n value) k a ts s = inl s
      splits (Preceded n f) k a ts s = elim (splits f k a s.back s.second) [
        | inl m ↦ inl (record { front = s.front; back = s.back; is = s.is; first = s.first; second = m })
        | inr c ↦ inr (behind_it s.front s.back ts s.is (λ x us d. record { front = s.front; back = us; is = refl; first = s.first; second = d }) c)
      ]
      splits (Terminated f n) k a ts s = elim (splits f k a s.front s.first) [
        | inl m ↦ inl (record { front = s.front; back = s.back; is = s.is; first = m; second = s.second })
        | inr c ↦ inr (before_it s.front s.back ts s.is (λ x us d. d) c)
      ]
      splits (Numbered n f) k a ts s = elim (splits f 0 a s.back s.second) [
        | inl m ↦ inl (record { front = s.front; back = s.back; is = s.is; first = s.first; second = m })
        | inr c ↦ inr (behind_it s.front s.back ts s.is (λ x us d. record { front = s.front; back = us; is = refl; first = s.first; second = d }) c)
      ]
      splits (Then f number g) k a ts s = elim (splits f k a.0 s.front s.first) [
        | inr c ↦ inr (before_it s.front s.back ts s.is (λ x us d. inl d) c)
        | inl m ↦ (elim (splits g (number a.0) a.1 s.back s.second) [
          | inl o ↦ inl (record { front = s.front; back = s.back; is = s.is; first = m; second = o })
          | inr c ↦ inr (behind_it s.front s.back ts s.is (λ x us d. inr (a.0, record { front = s.front; back = us; is = refl; first = m; second = d })) c)
        ])
      ]
      splits (Or f g) k a ts s = elim s [
        | inl s ↦ (elim (splits f k a ts s) [ inl m ↦ inl (inl m) | inr c ↦ inr (crossed_in ts (λ x us d. inl d) c) ])
        | inr s ↦ (elim (splits g k a ts s) [ inl m ↦ inl (inr m) | inr c ↦ inr (crossed_in ts (λ x us d. inr d) c) ])
      ]
      splits (Many f) k a ts s = elim (split_each (λ i. spells kind number_of true E f 0) (λ i. spells kind number_of false F f 0) (λ i. crosses kind number_of true E (λ s'. Opens (F s')) C f 0) (λ i x us. splits f 0 x us) 0 a ts s) [
        | inl m ↦ inl m
        | inr c ↦ inr (crossed_in ts (λ x us d. (d.0, d.2)) c)
      ]
      splits (ManyNumbered f) k a ts s = elim (split_each (spells kind number_of true E f) (spells kind number_of false F f) (crosses kind number_of true E (λ s'. Opens (F s')) C f) (λ i x us. splits f i x us) 0 a ts s) [
        | inl m ↦ inl m
        | inr c ↦ inr (crossed_in ts (λ x us d. (d.0, d.2)) c)
      ]
      splits (ManyBelow most f) k a ts s = elim (split_each (spells kind number_of true E f) (spells kind number_of false F f) (crosses kind number_of true E (λ s'. Opens (F s')) C f) (λ i x us. splits f i x us) k a ts s.1) [
        | inl m ↦ inl (s.0, m)
        | inr c ↦ inr (crossed_in ts (λ x us d. let l = d.1 in let few = s.0 in (d.0, omega (arith, l, few), d.2)) c)
      ]
      splits (Map make f) k a ts s = elim (splits f k s.0 ts s.2) [ inl m ↦ inl (s.0, s.1, m) | inr c ↦ inr c ]
      splits (At place f) k a ts s = elim (splits f k a.1 ts s.0) [ inl m ↦ inl (m, s.1) | inr c ↦ inr c ]
      splits (Below most s') k a ts s = elim (cases_Bool (ltb k most)) [
        | inr isnt ↦ (let o = opens s' a ts s.1 in inr (TooMany, o.0, o.1, o.2, inr (ltb-false k most isnt, refl, o.3)))
        | inl is ↦ (elim (inner s' a ts s.1) [
          | inl m ↦ inl (λ e. ltb-true k most is, m)
          | inr c ↦ inr (crossed_in ts (λ x us d. inl (ltb-true k most is, d)) c)
        ])
      ]
      splits (Inner s') k a ts s = inner s' a ts s

  -- what is spelled begins with one of the first kinds
  module _ (start goes_on : S → List ℕ) (is_kind is_counted : ℕ → Bool) (known : S → Bool) (E : (s : S) → V s → List T → Type 0) (inner : (s : S) (v : V s) (ts : List T) → E s v ts → Begins kind (start s) false ts) where
    abbrev D : {A : Type 0} → Form T S V A → Bool
    D f = decides kind start goes_on is_kind is_counted known f

    abbrev M : {A : Type 0} → Form T S V A → List ℕ
    M f = more kind start goes_on is_kind is_counted f

    begun_token : {A : Type 0} (n : ℕ) (value : T → A) (a : A) (ts : List T) → Token_of kind n value a ts → Begins kind (n ∷ []) false ts
    begun_token n value a ts s = subst (Begins kind (n ∷ []) false) (sym s.is) (or_left (eqb (kind s.token) n) false (eq-eqb (kind s.token) n s.kind_is))

    begun_first : (f : List ℕ) (front back ts : List T) → ts ≡ front ++ back → Begins kind f false front → Begins kind f false ts
    begun_first f [] back ts is b = cc
    begun_first f (t ∷ front) back ts is b = subst (Begins kind f false) (sym is) b

    begun_each : {A : Type 0} (f : List ℕ) (e : Bool) (N : ℕ → A → List T → Type 0) → e ≡ false → ((k : ℕ) (a : A) (ts : List T) → N k a ts → Begins kind f e ts) → (k : ℕ) (xs : List A) (ts : List T) → each N k xs ts → Begins kind f true ts
    begun_each f e N full one k [] ts s = subst (Begins kind f true) (sym s) refl
    begun_each f e N full one k (x ∷ xs) ts s = by ts (begun_first f s.front s.back ts s.is (subst (λ z. Begins kind f z s.front) full (one k x s.front s.first)))
      where
        by : (us : List T) → Begins kind f false us → Begins kind f true us
        by [] b = cc
        by (u ∷ us) b = b

    pub begun_form : {A : Type 0} (f : Form T S V A) → D f ≡ true → (b : Bool) (k : ℕ) (a : A) (ts : List T) → spells kind number_of b E f k a ts → Begins kind (firsts kind start f) (empty kind start f) ts
    begun_form (Nothing c) d b k a ts s = subst (Begins kind [] true) (sym s.1) refl
    begun_form (Token n value) d b k a ts s = begun_token n value a ts s
    begun_form (Preceded n f) d b k a ts s = begun_first (n ∷ []) s.front s.back ts s.is (begun_token n (λ t. tt) tt s.front s.first)
    begun_form (Terminated f n) d b k a ts s = subst (λ e. Begins kind (firsts kind start f ++ cond (empty kind start f) (n ∷ []) []) e ts) (never_empty (empty kind start f)) (subst (Begins kind (firsts kind start f ++ cond (empty kind start f) (n ∷ []) []) (empty kind start f && false)) (sym s.is) (begins_joined kind (firsts kind start f) (n ∷ []) (empty kind start f) false s.front s.back (begun_form f (and_parts (is_kind n) (D f) (and_parts (is_kind n && D f) (apart (M f) (n ∷ [])) d).0).1 b k a s.front s.first) (begun_token n (λ t. tt) tt s.back s.second)))
    begun_form (Numbered n f) d b k a ts s = begun_first (n ∷ []) s.front s.back ts s.is (begun_token n number_of k s.front s.first)
    begun_form (Then f number g) d b k a ts s =
        let p = and_parts (D f) (D g) (and_parts (D f && D g) (apart (M f) (firsts kind start g)) d).0 in
        subst (Begins kind (firsts kind start f ++ cond (empty kind start f) (firsts kind start g) []) (empty kind start f && empty kind start g)) (sym s.is) (begins_joined kind (firsts kind start f) (firsts kind start g) (empty kind start f) (empty kind start g) s.front s.back (begun_form f p.0 b k a.0 s.front s.first) (begun_form g p.1 b (number a.0) a.1 s.back s.second))
    begun_form (Or f g) d b k a ts s =
        let p = and_parts (D f && D g) (not (empty kind start f)) (and_parts ((D f && D g) && not (empty kind start f)) (apart (firsts kind start f) (firsts kind start g)) d).0 in
        let q = and_parts (D f) (D g) p.0 in
        let full = not-true (empty kind start f) p.1 in
        elim s [
          | inl s ↦ begins_left kind (firsts kind start f) (firsts kind start g) (empty kind start f || empty kind start g) ts (subst (λ e. Begins kind (firsts kind start f) e ts) full (begun_form f q.0 b k a ts s))
          | inr s ↦ begins_right kind (firsts kind start f) (firsts kind start g) (empty kind start f || empty kind start g) ts (subst (λ e. Begins kind (firsts kind start g) (e || empty kind start g) ts) (sym full) (begun_form g q.1 b k a ts s))
        ]
    begun_form (Many f) d b k a ts s = let p = and_parts (D f) (not (empty kind start f)) (and_parts (D f && not (empty kind start f)) (apart (M f) (firsts kind start f)) d).0 in begun_each (firsts kind start f) (empty kind start f) (λ i. spells kind number_of b E f 0) (not-true (empty kind start f) p.1) (λ i x us. begun_form f p.0 b 0 x us) 0 a ts s
    begun_form (ManyNumbered f) d b k a ts s = let p = and_parts (D f) (not (empty kind start f)) (and_parts (D f && not (empty kind start f)) (apart (M f) (firsts kind start f)) d).0 in begun_each (firsts kind start f) (empty kind start f) (spells kind number_of b E f) (not-true (empty kind start f) p.1) (λ i x us. begun_form f p.0 b i x us) 0 a ts s
    begun_form (ManyBelow most f) d b k a ts s = let p = and_parts (D f) (not (empty kind start f)) (and_parts (D f && not (empty kind start f)) (apart (M f) (firsts kind start f)) d).0 in begun_each (firsts kind start f) (empty kind start f) (spells kind number_of b E f) (not-true (empty kind start f) p.1) (λ i x us. begun_form f p.0 b i x us) k a ts s.1
    begun_form (Map make f) d b k a ts s = begun_form f d b k s.0 ts s.2
    begun_form (At place f) d b k a ts s = begun_form f (and_parts (D f) (not (empty kind start f)) d).0 b k a.1 ts s.0
    begun_form (Below most s') d b k a ts s = inner s' a ts s.1
    begun_form (Inner s') d b k a ts s = inner s' a ts s
