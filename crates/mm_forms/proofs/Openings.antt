-- Spellings that there are: one of each form, and one behind each token with which a form may begin.
use Rattle.std.proofs.Common.{◌≡◌, inl, inr, ℕ, List, [], ◌∷◌, ◌++◌, Bool, true, false, cond, ◌&&◌, ◌||◌, not, eqb, refl, sym, subst, append-nil, arith}
use Rattle.std.proofs.lemmas.Bool.{eqb-true, or_cases, or_left, and_parts, not-true, both_ways}
use Rattle.mm_forms.specs.Language.{each, Opens}
use Rattle.mm_forms.specs.Forms.{Form, Nothing, Token, Preceded, Terminated, Numbered, Then, Or, Many, ManyNumbered, ManyBelow, Map, At, Below, Inner, has, apart, Token_of, spells, empty, firsts, more, decides}
use Rattle.mm_forms.proofs.Numbers.{has_either}
use Rattle.mm_forms.proofs.Fronts.{Leads}
use Rattle.mm_forms.proofs.Laws.{Begins}
use Rattle.mm_forms.proofs.Spellings.{begun_form}

-- whether something spells the form, where something spells each of these sorts
abbrev pub ends : {T S : Type 0} {V : S → Type 0} → (S → Bool) → {A : Type 0} → Form T S V A → Bool
ends bare (Nothing b) = true
ends bare (Token n value) = true
ends bare (Preceded n f) = ends bare f
ends bare (Terminated f n) = ends bare f
ends bare (Numbered n f) = ends bare f
ends bare (Then f number g) = ends bare f && ends bare g
ends bare (Or f g) = ends bare f || ends bare g
ends bare (Many f) = true
ends bare (ManyNumbered f) = true
ends bare (ManyBelow most f) = true
ends bare (Map make f) = ends bare f
ends bare (At place f) = ends bare f
ends bare (Below most s) = bare s
ends bare (Inner s) = bare s

-- whether the form begins with a token that is free, or with a part of one of these sorts
abbrev pub free : {T S : Type 0} {V : S → Type 0} → (T → ℕ) → (S → List ℕ) → (S → Bool) → {A : Type 0} → Form T S V A → Bool
free kind start bare (Nothing b) = true
free kind start bare (Token n value) = true
free kind start bare (Preceded n f) = true
free kind start bare (Terminated f n) = free kind start bare f
free kind start bare (Numbered n f) = false
free kind start bare (Then f number g) = free kind start bare f && (not (empty kind start f) || free kind start bare g)
free kind start bare (Or f g) = free kind start bare f && free kind start bare g
free kind start bare (Many f) = free kind start bare f
free kind start bare (ManyNumbered f) = free kind start bare f
free kind start bare (ManyBelow most f) = false
free kind start bare (Map make f) = free kind start bare f
free kind start bare (At place f) = free kind start bare f
free kind start bare (Below most s) = bare s
free kind start bare (Inner s) = bare s

module _ {T : Type 0} (kind number_of : T → ℕ) {S : Type 0} {V : S → Type 0} (start goes_on : S → List ℕ) (is_kind is_counted : ℕ → Bool) (known : S → Bool)
    (sample : (n : ℕ) → is_kind n ≡ true → (t : T) × (kind t ≡ n))
    (counted : (n k : ℕ) → is_counted n ≡ true → (t : T) × (kind t ≡ n) × (number_of t ≡ k))
    (LB : (s : S) → V s → List T → Type 0)
    (begun : (s : S) (v : V s) (ts : List T) → LB s v ts → Begins kind (start s) false ts) where
  abbrev D : {A : Type 0} → Form T S V A → Bool
  D f = decides kind start goes_on is_kind is_counted known f

  abbrev E : {A : Type 0} → Form T S V A → Bool
  E f = empty kind start f

  abbrev F : {A : Type 0} → Form T S V A → List ℕ
  F f = firsts kind start f

  abbrev M : {A : Type 0} → Form T S V A → List ℕ
  M f = more kind start goes_on is_kind is_counted f

  abbrev Some : {A : Type 0} → Form T S V A → ℕ → Type 0
  Some f k = Leads (spells kind number_of false LB f k) []

  one_of : {A : Type 0} (n : ℕ) (value : T → A) (t : T) → kind t ≡ n → Token_of kind n value (value t) (t ∷ [])
  one_of n value t h = record { token = t; is = refl; kind_is = h; value_is = refl }

  -- one token decides, so all sorts in it are known
  ends_known : {A : Type 0} (f : Form T S V A) → D f ≡ true → ends known f ≡ true
  ends_known (Nothing b) d = refl
  ends_known (Token n value) d = refl
  ends_known (Preceded n f) d = ends_known f (and_parts (is_kind n) (D f) d).1
  ends_known (Terminated f n) d = ends_known f (and_parts (is_kind n) (D f) (and_parts (is_kind n && D f) (apart (M f) (n ∷ [])) d).0).1
  ends_known (Numbered n f) d = ends_known f (and_parts (is_counted n) (D f) d).1
  ends_known (Then f number g) d =
      let p = and_parts (D f) (D g) (and_parts (D f && D g) (apart (M f) (F g)) d).0 in
      both (ends known f) (ends known g) (ends_known f p.0) (ends_known g p.1)
    where
      both : (a b : Bool) → a ≡ true → b ≡ true → (a && b) ≡ true
      both true b h g = g
      both false b h g = cc
  ends_known (Or f g) d =
      let p = and_parts (D f && D g) (not (E f)) (and_parts ((D f && D g) && not (E f)) (apart (F f) (F g)) d).0 in
      or_left (ends known f) (ends known g) (ends_known f (and_parts (D f) (D g) p.0).0)
  ends_known (Many f) d = refl
  ends_known (ManyNumbered f) d = refl
  ends_known (ManyBelow most f) d = refl
  ends_known (Map make f) d = ends_known f d
  ends_known (At place f) d = ends_known f (and_parts (D f) (not (E f)) d).0
  ends_known (Below most s) d = d
  ends_known (Inner s) d = d

  module _ (bare : S → Bool) (some : (s : S) → bare s ≡ true → Leads (LB s) []) where
    -- something spells it
    pub some_form : {A : Type 0} (f : Form T S V A) → D f ≡ true → ends bare f ≡ true → (k : ℕ) → Some f k
    some_form (Nothing b) d e k = record { thing = b; behind = []; spelled = (refl, refl) }
    some_form (Token n value) d e k = let t = sample n d in record { thing = value t.0; behind = t.0 ∷ []; spelled = one_of n value t.0 t.1 }
    some_form (Preceded n f) d e k =
        let p = and_parts (is_kind n) (D f) d in
        let t = sample n p.0 in
        let l = some_form f p.1 e k in
        record { thing = l.thing; behind = t.0 ∷ l.behind; spelled = record { front = t.0 ∷ []; back = l.behind; is = refl; first = one_of n (λ t. tt) t.0 t.1; second = l.spelled } }
    some_form (Terminated f n) d e k =
        let p = and_parts (is_kind n) (D f) (and_parts (is_kind n && D f) (apart (M f) (n ∷ [])) d).0 in
        let t = sample n p.0 in
        let l = some_form f p.1 e k in
        record { thing = l.thing; behind = l.behind ++ t.0 ∷ []; spelled = record { front = l.behind; back = t.0 ∷ []; is = refl; first = l.spelled; second = one_of n (λ t. tt) t.0 t.1 } }
    some_form (Numbered n f) d e k =
        let p = and_parts (is_counted n) (D f) d in
        let t = counted n k p.0 in
        let l = some_form f p.1 e 0 in
        record { thing = l.thing; behind = t.0 ∷ l.behind; spelled = record { front = t.0 ∷ []; back = l.behind; is = refl; first = record { token = t.0; is = refl; kind_is = t.1; value_is = sym t.2 }; second = l.spelled } }
    some_form (Then f number g) d e k =
        let p = and_parts (D f) (D g) (and_parts (D f && D g) (apart (M f) (F g)) d).0 in
        let q = and_parts (ends bare f) (ends bare g) e in
        let l = some_form f p.0 q.0 k in
        let r = some_form g p.1 q.1 (number l.thing) in
        record { thing = (l.thing, r.thing); behind = l.behind ++ r.behind; spelled = record { front = l.behind; back = r.behind; is = refl; first = l.spelled; second = r.spelled } }
    some_form (Or f g) d e k =
        let p = and_parts (D f) (D g) (and_parts (D f && D g) (not (E f)) (and_parts ((D f && D g) && not (E f)) (apart (F f) (F g)) d).0).0 in
        elim (or_cases (ends bare f) (ends bare g) e) [
          | inl h ↦ (let l = some_form f p.0 h k in record { thing = l.thing; behind = l.behind; spelled = inl l.spelled })
          | inr h ↦ (let l = some_form g p.1 h k in record { thing = l.thing; behind = l.behind; spelled = inr l.spelled })
        ]
    some_form (Many f) d e k = record { thing = []; behind = []; spelled = refl }
    some_form (ManyNumbered f) d e k = record { thing = []; behind = []; spelled = refl }
    some_form (ManyBelow most f) d e k = record { thing = []; behind = []; spelled = (omega arith, refl) }
    some_form (Map make f) d e k = let l = some_form f d e k in record { thing = make l.thing; behind = l.behind; spelled = (l.thing, refl, l.spelled) }
    some_form (At place f) d e k =
        let p = and_parts (D f) (not (E f)) d in
        let l = some_form f p.0 e k in
        by l.behind l.thing (not-true (E f) p.1) (begun_form kind number_of start goes_on is_kind is_counted known LB begun f p.0 false k l.thing l.behind l.spelled) l.spelled
      where
        by : (us : List T) (a : _) → E f ≡ false → Begins kind (F f) (E f) us → spells kind number_of false LB f k a us → Some (At place f) k
        by [] a full b s = absurd (both_ways (E f) full b)
        by (u ∷ us) a full b s = record { thing = (place u, a); behind = u ∷ us; spelled = (s, refl) }
    some_form (Below most s) d e k = let l = some s e in record { thing = l.thing; behind = l.behind; spelled = (λ h. cc, l.spelled) }
    some_form (Inner s) d e k = some s e

  -- what may be empty is spelled by nothing
  nothing_form : {A : Type 0} (f : Form T S V A) → D f ≡ true → E f ≡ true → (k : ℕ) → (a : A) × spells kind number_of false LB f k a []
  nothing_form (Nothing b) d e k = (b, (refl, refl))
  nothing_form (Token n value) d e k = cc
  nothing_form (Preceded n f) d e k = cc
  nothing_form (Terminated f n) d e k = cc
  nothing_form (Numbered n f) d e k = cc
  nothing_form (Then f number g) d e k =
      let p = and_parts (D f) (D g) (and_parts (D f && D g) (apart (M f) (F g)) d).0 in
      let q = and_parts (E f) (E g) e in
      let l = nothing_form f p.0 q.0 k in
      let r = nothing_form g p.1 q.1 (number l.0) in
      ((l.0, r.0), record { front = []; back = []; is = refl; first = l.1; second = r.1 })
  nothing_form (Or f g) d e k =
      let p = and_parts (D f) (D g) (and_parts (D f && D g) (not (E f)) (and_parts ((D f && D g) && not (E f)) (apart (F f) (F g)) d).0).0 in
      elim (or_cases (E f) (E g) e) [
        | inl h ↦ (let l = nothing_form f p.0 h k in (l.0, inl l.1))
        | inr h ↦ (let l = nothing_form g p.1 h k in (l.0, inr l.1))
      ]
  nothing_form (Many f) d e k = ([], refl)
  nothing_form (ManyNumbered f) d e k = ([], refl)
  nothing_form (ManyBelow most f) d e k = ([], (omega arith, refl))
  nothing_form (Map make f) d e k = let l = nothing_form f d e k in (make l.0, (l.0, refl, l.1))
  nothing_form (At place f) d e k = absurd (both_ways (E f) (not-true (E f) (and_parts (D f) (not (E f)) d).1) e)
  nothing_form (Below most s) d e k = cc
  nothing_form (Inner s) d e k = cc

  in_cond : (b : Bool) (n : ℕ) (xs : List ℕ) → has n (cond b xs []) ≡ true → (b ≡ true) × (has n xs ≡ true)
  in_cond true n xs h = (refl, h)
  in_cond false n xs h = cc

  left_free : (b c : Bool) → (not b || c) ≡ true → b ≡ true → c ≡ true
  left_free true c h e = h
  left_free false c h e = cc

  is_one : (t : T) (n : ℕ) → has (kind t) (n ∷ []) ≡ true → kind t ≡ n
  is_one t n h = elim (or_cases (eqb (kind t) n) false h) [ inl e ↦ eqb-true (kind t) n e | inr e ↦ cc ]

  module _ (some : (s : S) → known s ≡ true → Leads (LB s) []) (bare : S → Bool)
      (opens : (s : S) → bare s ≡ true → (t : T) → has (kind t) (start s) ≡ true → Opens (LB s) (t ∷ [])) where
    -- something begins with this token
    abbrev Opened : {A : Type 0} → Form T S V A → ℕ → T → Type 0
    Opened {A = A} f k t = (a : A) × (behind : List T) × spells kind number_of false LB f k a (t ∷ behind)

    behind_it : {A : Type 0} (f : Form T S V A) → D f ≡ true → (k : ℕ) → Some f k
    behind_it f d k = some_form known some f d (ends_known f d) k

    opened_each : {A : Type 0} (N : ℕ → A → List T → Type 0) (k : ℕ) (t : T) → (a : A) × (behind : List T) × N k a (t ∷ behind) → (xs : List A) × (behind : List T) × each N k xs (t ∷ behind)
    opened_each N k t o = (o.0 ∷ [], o.1, record { front = t ∷ o.1; back = []; is = sym (append-nil (t ∷ o.1)); first = o.2; second = refl })

    opened_sort : (s : S) → bare s ≡ true → (t : T) → has (kind t) (start s) ≡ true → (v : V s) × (behind : List T) × LB s v (t ∷ behind)
    opened_sort s e t h =
        let o = opens s e t h in
        let same : o.token ≡ t = first_same t o.token o.is in
        (o.thing, o.behind, subst (λ u. LB s o.thing (u ∷ o.behind)) same o.spelled)
      where
        first_same : (t u : T) → t ∷ [] ≡ u ∷ [] → u ≡ t
        first_same t u h = cc

    opened : {A : Type 0} (f : Form T S V A) → D f ≡ true → free kind start bare f ≡ true → (k : ℕ) (t : T) → has (kind t) (F f) ≡ true → Opened f k t
    opened (Nothing b) d e k t h = cc
    opened (Token n value) d e k t h = (value t, [], one_of n value t (is_one t n h))
    opened (Preceded n f) d e k t h =
        let l = behind_it f (and_parts (is_kind n) (D f) d).1 k in
        (l.thing, l.behind, record { front = t ∷ []; back = l.behind; is = refl; first = one_of n (λ t. tt) t (is_one t n h); second = l.spelled })
    opened (Terminated f n) d e k t h =
        let p = and_parts (is_kind n) (D f) (and_parts (is_kind n && D f) (apart (M f) (n ∷ [])) d).0 in
        elim (has_either (kind t) (F f) (cond (E f) (n ∷ []) []) h) [
          | inl h ↦ (
              let o = opened f p.1 e k t h in
              let c = sample n p.0 in
              (o.0, o.1 ++ c.0 ∷ [], record { front = t ∷ o.1; back = c.0 ∷ []; is = refl; first = o.2; second = one_of n (λ t. tt) c.0 c.1 }))
          | inr h ↦ (
              let q = in_cond (E f) (kind t) (n ∷ []) h in
              let l = nothing_form f p.1 q.0 k in
              (l.0, [], record { front = []; back = t ∷ []; is = refl; first = l.1; second = one_of n (λ t. tt) t (is_one t n q.1) }))
        ]
    opened (Numbered n f) d e k t h = cc
    opened (Then f number g) d e k t h =
        let p = and_parts (D f) (D g) (and_parts (D f && D g) (apart (M f) (F g)) d).0 in
        let z = and_parts (free kind start bare f) (not (E f) || free kind start bare g) e in
        elim (has_either (kind t) (F f) (cond (E f) (F g) []) h) [
          | inl h ↦ (
              let o = opened f p.0 z.0 k t h in
              let l = behind_it g p.1 (number o.0) in
              ((o.0, l.thing), o.1 ++ l.behind, record { front = t ∷ o.1; back = l.behind; is = refl; first = o.2; second = l.spelled }))
          | inr h ↦ (
              let q = in_cond (E f) (kind t) (F g) h in
              let l = nothing_form f p.0 q.0 k in
              let o = opened g p.1 (left_free (E f) (free kind start bare g) z.1 q.0) (number l.0) t q.1 in
              ((l.0, o.0), o.1, record { front = []; back = t ∷ o.1; is = refl; first = l.1; second = o.2 }))
        ]
    opened (Or f g) d e k t h =
        let p = and_parts (D f) (D g) (and_parts (D f && D g) (not (E f)) (and_parts ((D f && D g) && not (E f)) (apart (F f) (F g)) d).0).0 in
        let z = and_parts (free kind start bare f) (free kind start bare g) e in
        elim (has_either (kind t) (F f) (F g) h) [
          | inl h ↦ (let o = opened f p.0 z.0 k t h in (o.0, o.1, inl o.2))
          | inr h ↦ (let o = opened g p.1 z.1 k t h in (o.0, o.1, inr o.2))
        ]
    opened (Many f) d e k t h =
        let p = and_parts (D f) (not (E f)) (and_parts (D f && not (E f)) (apart (M f) (F f)) d).0 in
        opened_each (λ i. spells kind number_of false LB f 0) 0 t (opened f p.0 e 0 t h)
    opened (ManyNumbered f) d e k t h =
        let p = and_parts (D f) (not (E f)) (and_parts (D f && not (E f)) (apart (M f) (F f)) d).0 in
        opened_each (spells kind number_of false LB f) 0 t (opened f p.0 e 0 t h)
    opened (ManyBelow most f) d e k t h = cc
    opened (Map make f) d e k t h = let o = opened f d e k t h in (make o.0, o.1, (o.0, refl, o.2))
    opened (At place f) d e k t h = let o = opened f (and_parts (D f) (not (E f)) d).0 e k t h in ((place t, o.0), o.1, (o.2, refl))
    opened (Below most s) d e k t h = let o = opened_sort s e t h in (o.0, o.1, (λ e. cc, o.2))
    opened (Inner s) d e k t h = opened_sort s e t h

    -- each token of a first kind begins something
    pub opens_form : {A : Type 0} (f : Form T S V A) → D f ≡ true → free kind start bare f ≡ true → (k : ℕ) (t : T) → has (kind t) (F f) ≡ true → Opens (spells kind number_of false LB f k) (t ∷ [])
    opens_form f d e k t h = let o = opened f d e k t h in record { token = t; is = refl; thing = o.0; behind = o.1; spelled = o.2 }
