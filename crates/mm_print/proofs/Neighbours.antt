-- Which tokens stand side by side in what a form spells.
use Rattle.std.proofs.Common.{◌≡◌, inl, inr, ℕ, ◌+◌, Bool, true, false, cond, ◌||◌, ◌&&◌, not, eqb, List, [], ◌∷◌, ◌++◌, refl, sym, ◌∙◌, ap, subst, append-nil}
use Rattle.std.proofs.lemmas.Bool.{and_parts, or_left, or_right, not-true, eqb-true, eq-eqb}
use Rattle.mm_forms.specs.Language.{Joined, each}
use Rattle.mm_forms.specs.Forms.{Form, Nothing, Token, Preceded, Terminated, Numbered, Then, Or, Many, ManyNumbered, ManyBelow, Map, At, Below, Inner, Token_of, has, empty, firsts, spells}
use Rattle.mm_forms.proofs.Numbers.{has_left, has_right, has_either, subset}
use Rattle.mm_forms.proofs.Laws.{Begins, begins_joined}
use Rattle.mm_forms.proofs.Parts.{never_empty}
use Rattle.mm_print.specs.Neighbours.{apart_in, lasts, never}

-- what is in a list is in one that has each of its elements
pub has_all : (n : ℕ) (ms ns : List ℕ) → subset ms ns ≡ true → has n ms ≡ true → has n ns ≡ true
has_all n [] ns s h = cc
has_all n (m ∷ ms) ns s h = by (has_all n ms ns (and_parts (has m ns) (subset ms ns) s).1) (eqb n m) refl h
  where
    by : (has n ms ≡ true → has n ns ≡ true) → (b : Bool) → eqb n m ≡ b → (b || has n ms) ≡ true → has n ns ≡ true
    by again true e g = subst (λ k. has k ns ≡ true) (sym (eqb-true n m e)) (and_parts (has m ns) (subset ms ns) s).0
    by again false e g = again g

-- the last of some tokens, of which there is one
abbrev pub last : {T : Type 0} → T → List T → T
last t [] = t
last t (u ∷ ts) = last u ts

last-append : {T : Type 0} (t u : T) (ts us : List T) → last t (ts ++ u ∷ us) ≡ last u us
last-append t u [] us = refl
last-append t u (x ∷ ts) us = last-append x u ts us

none_side : (b c : Bool) → not (b && c) ≡ true → b ≡ true → c ≡ true → ⊥
none_side true true h p q = cc
none_side true false h p q = cc
none_side false c h p q = cc

module _ {T : Type 0} (kind : T → ℕ) (p q : ℕ) where
  -- the last token is of one of these kinds; there may be none only where that is said
  abbrev pub Ends : List ℕ → Bool → List T → Type 0
  Ends kinds none [] = none ≡ true
  Ends kinds none (t ∷ ts) = has (kind (last t ts)) kinds ≡ true

  -- with which tokens it begins and ends, and that within it no p stands before a q
  pub record Edges (first final : List ℕ) (none : Bool) (ts : List T) : Type 0 where
    pub begun : Begins kind first none ts
    pub ended : Ends final none ts
    pub apart : apart_in kind p q ts ≡ true

  ends_joined : (l m : List ℕ) (e d : Bool) (ts us : List T) → Ends l e ts → Ends m d us → Ends (m ++ cond d l []) (e && d) (ts ++ us)
  ends_joined l m e d [] (u ∷ us) a b = has_left (kind (last u us)) m (cond d l []) b
  ends_joined l m true d [] [] a b = b
  ends_joined l m false d [] [] a b = cc
  ends_joined l m e true (t ∷ ts) [] a b = has_right (kind (last t (ts ++ []))) m l (subst (λ z. has (kind (last t z)) l ≡ true) (sym (append-nil ts)) a)
  ends_joined l m e false (t ∷ ts) [] a b = cc
  ends_joined l m e d (t ∷ ts) (u ∷ us) a b =
      has_left (kind (last t (ts ++ u ∷ us))) m (cond d l []) (subst (λ z. has (kind z) m ≡ true) (sym (last-append t u ts us)) b)

  -- one token before another, of which not both are of these kinds
  beside : (l g : List ℕ) (t u : T) → not (has p l && has q g) ≡ true → has (kind t) l ≡ true → has (kind u) g ≡ true → (eqb (kind t) p && eqb (kind u) q) ≡ false
  beside l g t u h a b = by (eqb (kind t) p) (eqb (kind u) q) refl refl
    where
      by : (x y : Bool) → eqb (kind t) p ≡ x → eqb (kind u) q ≡ y → (x && y) ≡ false
      by true true d e = absurd (none_side (has p l) (has q g) h (subst (λ k. has k l ≡ true) (eqb-true (kind t) p d) a) (subst (λ k. has k g ≡ true) (eqb-true (kind u) q e) b))
      by true false d e = refl
      by false y d e = refl

  apart_step : (t u : T) (us : List T) → (eqb (kind t) p && eqb (kind u) q) ≡ false → apart_in kind p q (u ∷ us) ≡ true → apart_in kind p q (t ∷ u ∷ us) ≡ true
  apart_step t u us none rest = ap (λ b. not b && apart_in kind p q (u ∷ us)) none ∙ rest

  apart_joined : (l g : List ℕ) (d : Bool) (t : T) (ts us : List T) → not (has p l && has q g) ≡ true → has (kind (last t ts)) l ≡ true → Begins kind g d us → apart_in kind p q (t ∷ ts) ≡ true → apart_in kind p q us ≡ true
      → apart_in kind p q (t ∷ (ts ++ us)) ≡ true
  apart_joined l g d t [] [] h a b x y = refl
  apart_joined l g d t [] (u ∷ us) h a b x y = apart_step t u us (beside l g t u h a b) y
  apart_joined l g d t (v ∷ ts) us h a b x y =
      let parts = and_parts (not (eqb (kind t) p && eqb (kind v) q)) (apart_in kind p q (v ∷ ts)) x in
      apart_step t v (ts ++ us) (not-true (eqb (kind t) p && eqb (kind v) q) parts.0) (apart_joined l g d v ts us h a b parts.1 y)

  joined : (f l g m : List ℕ) (e d : Bool) (ts us : List T) → not (has p l && has q g) ≡ true → Edges f l e ts → Edges g m d us → Edges (f ++ cond e g []) (m ++ cond d l []) (e && d) (ts ++ us)
  joined f l g m e d ts us h a b = record {
    begun = begins_joined kind f g e d ts us a.begun b.begun;
    ended = ends_joined l m e d ts us a.ended b.ended;
    apart = by ts a;
  }
    where
      by : (xs : List T) → Edges f l e xs → apart_in kind p q (xs ++ us) ≡ true
      by [] c = b.apart
      by (t ∷ xs) c = apart_joined l g d t xs us h c.ended b.begun c.apart b.apart

  -- the same over lists that have more
  pub wider : (f g l m : List ℕ) (e d : Bool) (ts : List T) → ((n : ℕ) → has n f ≡ true → has n g ≡ true) → ((n : ℕ) → has n l ≡ true → has n m ≡ true) → (e ≡ true → d ≡ true) → Edges f l e ts → Edges g m d ts
  wider f g l m e d [] a b c x = record { begun = c x.begun; ended = c x.ended; apart = refl }
  wider f g l m e d (t ∷ ts) a b c x = record { begun = a (kind t) x.begun; ended = b (kind (last t ts)) x.ended; apart = x.apart }

  over : (f l : List ℕ) (e : Bool) (L : List T → Type 0) → ((ts : List T) → L ts → Edges f l e ts) → (g m : List ℕ) (d : Bool) (M : List T → Type 0) → ((ts : List T) → M ts → Edges g m d ts)
      → not (has p l && has q g) ≡ true → (ts : List T) → Joined L M ts → Edges (f ++ cond e g []) (m ++ cond d l []) (e && d) ts
  over f l e L a g m d M b h ts s = subst (Edges (f ++ cond e g []) (m ++ cond d l []) (e && d)) (sym s.is) (joined f l g m e d s.front s.back h (a s.front s.first) (b s.back s.second))

  has_twice : (n : ℕ) (xs : List ℕ) (e : Bool) → has n (xs ++ cond e xs []) ≡ true → has n xs ≡ true
  has_twice n xs e h = elim (has_either n xs (cond e xs []) h) [
    | inl a ↦ a
    | inr b ↦ by e b
  ]
    where
      by : (d : Bool) → has n (cond d xs []) ≡ true → has n xs ≡ true
      by true b = b
      by false b = cc

  -- one thing after the other
  many : {A : Type 0} (f l : List ℕ) (e : Bool) (L : ℕ → A → List T → Type 0) → ((k : ℕ) (a : A) (ts : List T) → L k a ts → Edges f l e ts) → not (has p l && has q f) ≡ true
      → (k : ℕ) (xs : List A) (ts : List T) → each L k xs ts → Edges f l true ts
  many f l e L one h k [] ts s = subst (Edges f l true) (sym s) (record { begun = refl; ended = refl; apart = refl })
  many f l e L one h k (x ∷ xs) ts s =
      wider (f ++ cond e f []) f (l ++ l) l (e && true) true ts (λ n. has_twice n f e) (λ n. has_twice n l true) (λ w. refl)
      (over f l e (L k x) (one k x) f l true (each L (k + 1) xs) (many f l e L one h (k + 1) xs) h ts s)

  token : {A : Type 0} (n : ℕ) (value : T → A) (a : A) (ts : List T) → Token_of kind n value a ts → Edges (n ∷ []) (n ∷ []) false ts
  token n value a ts s =
      let here : has (kind s.token) (n ∷ []) ≡ true = ap (λ k. has k (n ∷ [])) s.kind_is ∙ or_left (eqb n n) false (eq-eqb n n refl) in
      subst (Edges (n ∷ []) (n ∷ []) false) (sym s.is) (record { begun = here; ended = here; apart = refl })

  module _ {S : Type 0} {V : S → Type 0} (start stop : S → List ℕ) (number_of : T → ℕ) (limited : Bool) (spelled : (s : S) → V s → List T → Type 0)
      (part : (s : S) (v : V s) (ts : List T) → spelled s v ts → Edges (start s) (stop s) false ts) where
    pub edges : {A : Type 0} (f : Form T S V A) → never kind start stop p q f ≡ true → (k : ℕ) (a : A) (ts : List T) → spells kind number_of limited spelled f k a ts → Edges (firsts kind start f) (lasts kind start stop f) (empty kind start f) ts
    edges (Nothing b) h k a ts s = subst (Edges [] [] true) (sym s.1) (record { begun = refl; ended = refl; apart = refl })
    edges (Token n value) h k a ts s = token n value a ts s
    edges (Preceded n f) h k a ts s =
        let parts = and_parts (not (has p (n ∷ []) && has q (firsts kind start f))) (never kind start stop p q f) h in
        over (n ∷ []) (n ∷ []) false _ (token n (λ t. tt {0}) (tt {0})) (firsts kind start f) (lasts kind start stop f) (empty kind start f) _ (edges f parts.1 k a) parts.0 ts s
    edges (Terminated f n) h k a ts s =
        let parts = and_parts (not (has p (lasts kind start stop f) && has q (n ∷ []))) (never kind start stop p q f) h in
        subst (λ e. Edges (firsts kind start f ++ cond (empty kind start f) (n ∷ []) []) (n ∷ []) e ts) (never_empty (empty kind start f))
        (over (firsts kind start f) (lasts kind start stop f) (empty kind start f) _ (edges f parts.1 k a) (n ∷ []) (n ∷ []) false _ (token n (λ t. tt {0}) (tt {0})) parts.0 ts s)
    edges (Numbered n f) h k a ts s =
        let parts = and_parts (not (has p (n ∷ []) && has q (firsts kind start f))) (never kind start stop p q f) h in
        over (n ∷ []) (n ∷ []) false _ (token n number_of k) (firsts kind start f) (lasts kind start stop f) (empty kind start f) _ (edges f parts.1 0 a) parts.0 ts s
    edges (Then f number g) h k a ts s =
        let both = and_parts (not (has p (lasts kind start stop f) && has q (firsts kind start g)) && never kind start stop p q f) (never kind start stop p q g) h in
        let parts = and_parts (not (has p (lasts kind start stop f) && has q (firsts kind start g))) (never kind start stop p q f) both.0 in
        over (firsts kind start f) (lasts kind start stop f) (empty kind start f) _ (edges f parts.1 k a.0) (firsts kind start g) (lasts kind start stop g) (empty kind start g) _ (edges g both.1 (number a.0) a.1) parts.0 ts s
    edges (Or f g) h k a ts (inl s) =
        let parts = and_parts (never kind start stop p q f) (never kind start stop p q g) h in
        wider _ _ _ _ _ _ ts (λ n. has_left n (firsts kind start f) (firsts kind start g)) (λ n. has_left n (lasts kind start stop f) (lasts kind start stop g)) (or_left (empty kind start f) (empty kind start g)) (edges f parts.0 k a ts s)
    edges (Or f g) h k a ts (inr s) =
        let parts = and_parts (never kind start stop p q f) (never kind start stop p q g) h in
        wider _ _ _ _ _ _ ts (λ n. has_right n (firsts kind start f) (firsts kind start g)) (λ n. has_right n (lasts kind start stop f) (lasts kind start stop g)) (or_right (empty kind start f) (empty kind start g)) (edges g parts.1 k a ts s)
    edges (Many f) h k a ts s =
        let parts = and_parts (not (has p (lasts kind start stop f) && has q (firsts kind start f))) (never kind start stop p q f) h in
        many (firsts kind start f) (lasts kind start stop f) (empty kind start f) _ (λ i x us. edges f parts.1 0 x us) parts.0 0 a ts s
    edges (ManyNumbered f) h k a ts s =
        let parts = and_parts (not (has p (lasts kind start stop f) && has q (firsts kind start f))) (never kind start stop p q f) h in
        many (firsts kind start f) (lasts kind start stop f) (empty kind start f) _ (λ i x us. edges f parts.1 i x us) parts.0 0 a ts s
    edges (ManyBelow most f) h k a ts s =
        let parts = and_parts (not (has p (lasts kind start stop f) && has q (firsts kind start f))) (never kind start stop p q f) h in
        many (firsts kind start f) (lasts kind start stop f) (empty kind start f) _ (λ i x us. edges f parts.1 i x us) parts.0 k a ts s.1
    edges (Map make f) h k a ts s = edges f h k s.0 ts s.2
    edges (At place f) h k a ts s = edges f h k a.1 ts s.0
    edges (Below most s) h k a ts r = part s a ts r.1
    edges (Inner s) h k a ts r = part s a ts r
