-- The law of a part with one token before it or behind it.
use Rattle.std.proofs.Common.{◌≡◌, inl, inr, ℕ, List, [], ◌∷◌, ◌++◌, Bool, true, false, cond, ◌&&◌, eqb, Result, Ok, Err, refl, sym, ◌∙◌, ap, subst, append-nil}
use Rattle.mm_forms.specs.declared.fault.Fault.{Fault}
use Rattle.mm_forms.specs.declared.fault.Fault.TheVariants.{Unfit}
use Rattle.mm_forms.specs.Language.{Joined}
use Rattle.mm_forms.specs.Forms.{apart, ◌>>=◌, Read, Token_of, past_counted, token_in, one, past}
use Rattle.mm_forms.proofs.Laws.{Stops, Law, law_made, law_same, law_flag}
use Rattle.mm_forms.proofs.TwoParts.{Both, Either_crosses, both_in, law_then}
use Rattle.mm_forms.proofs.TokenLaws.{law_token, Numbered, law_counted}

pub never_empty : (e : Bool) → (e && false) ≡ false
never_empty true = refl
never_empty false = refl

module _ {T : Type 0} (kind : T → ℕ) where
  -- Joined languages

  joined : {L M N O : List T → Type 0} → ((ts : List T) → L ts → N ts) → ((ts : List T) → M ts → O ts) → (ts : List T) → Joined L M ts → Joined N O ts
  joined f g ts s = record { front = s.front; back = s.back; is = s.is; first = f s.front s.first; second = g s.back s.second }

  stops_none : (m : List ℕ) (e : Bool) (ts : List T) → Stops kind m ts → Stops kind (m ++ cond e [] []) ts
  stops_none m true ts s = subst (λ z. Stops kind z ts) (sym (append-nil m)) s
  stops_none m false ts s = subst (λ z. Stops kind z ts) (sym (append-nil m)) s

  -- one token of a kind, and then the rest

  -- the one read, and then the other
  abbrev paired : {A B : Type 0} → Read T A → (List T → Read T B) → Read T (A × B)
  paired r next = r >>= λ a. next a.1 >>= λ b. Ok ((a.0, b.0), b.1)

  abbrev first_of_two : {A B : Type 0} → Read T (A × B) → Read T A
  first_of_two r = r >>= λ p. Ok (p.0.0, p.1)

  abbrev second_of_two : {A B : Type 0} → Read T (A × B) → Read T B
  second_of_two r = r >>= λ p. Ok (p.0.1, p.1)

  abbrev valueless : Result (List T) (Fault × List T) → Read T (Unit {0})
  valueless r = r >>= λ rest. Ok (tt, rest)

  skip_read : {A : Type 0} (r : Result (List T) (Fault × List T)) (read : List T → Read T A) → second_of_two (paired (valueless r) read) ≡ (r >>= read)
  skip_read {A = A} (Ok rest) read = by (read rest)
    where
      by : (q : Read T A) → second_of_two (paired (Ok (tt {0}, rest)) (λ us. q)) ≡ q
      by (Ok b) = refl
      by (Err x) = refl
  skip_read (Err x) read = refl

  token_past : (n : ℕ) (ts : List T) → token_in kind n (λ t. tt {0}) ts ≡ (past kind n ts >>= λ rest. Ok (tt, rest))
  token_past n [] = refl
  token_past n (t ∷ ts) = by (eqb (kind t) n)
    where
      by : (b : Bool) → cond {A = Read T (Unit {0})} b (Ok (tt, ts)) (Err (Unfit, t ∷ ts)) ≡ (cond {A = Result (List T) (Fault × List T)} b (Ok ts) (Err (Unfit, t ∷ ts)) >>= λ rest. Ok (tt, rest))
      by true = refl
      by false = refl

  pub law_skip : {A : Type 0} {L LB : A → List T → Type 0} {C : Fault → List T → Type 0} {read : List T → Read T A} {f m : List ℕ} {e : Bool}
      (n : ℕ) (sample : T) → kind sample ≡ n → Law kind L LB C read f e m
      → Law kind (λ a. Joined (one kind n) (L a)) (λ a. Joined (one kind n) (LB a)) (λ x. Joined (one kind n) (C x)) (λ ts. past kind n ts >>= read) (n ∷ []) false m
  law_skip {A = A} {L = L} {LB = LB} {C = C} {read = read} {m = m} {e = e} n sample is rest = law_same kind (to L) (from L) (to LB) (from LB) to_c from_c goes (λ k h. h) (stops_none m e)
      (law_made kind (λ p. p.1) (law_then kind (law_token kind n (λ t. tt {0}) sample is) (λ u. rest) refl))
    where
      to : (M : A → List T → Type 0) (a : A) (ts : List T) → ((p : Unit {0} × A) × (a ≡ p.1) × Both kind (λ u. Token_of kind n (λ t. tt {0}) u) (λ u. M) p ts) → Joined (one kind n) (M a) ts
      to M a ts s = subst (λ b. Joined (one kind n) (M b) ts) (sym s.1) s.2

      from : (M : A → List T → Type 0) (a : A) (ts : List T) → Joined (one kind n) (M a) ts → ((p : Unit {0} × A) × (a ≡ p.1) × Both kind (λ u. Token_of kind n (λ t. tt {0}) u) (λ u. M) p ts)
      from M a ts s = ((tt, a), refl, s)

      to_c : (x : Fault) (ts : List T) → Either_crosses kind (λ u. Token_of kind n (λ t. tt {0}) u) (λ y us. ⊥) (λ u. C) x ts → Joined (one kind n) (C x) ts
      to_c x ts (inl c) = absurd c
      to_c x ts (inr c) = c.1

      from_c : (x : Fault) (ts : List T) → Joined (one kind n) (C x) ts → Either_crosses kind (λ u. Token_of kind n (λ t. tt {0}) u) (λ y us. ⊥) (λ u. C) x ts
      from_c x ts c = inr (tt, c)

      goes : (ts : List T) → (both_in kind (token_in kind n (λ t. tt {0})) (λ u. read) ts >>= λ p. Ok (p.0.1, p.1)) ≡ (past kind n ts >>= read)
      goes ts = ap (λ r. second_of_two (paired r read)) (token_past n ts) ∙ skip_read (past kind n ts) read

  -- one token of a kind with the number that is wanted, and then the rest
  pub law_count : {A : Type 0} {L LB : A → List T → Type 0} {C : Fault → List T → Type 0} {read : List T → Read T A} {f m : List ℕ} {e : Bool}
      (n : ℕ) (number : T → ℕ) (k : ℕ) (sample : T) → kind sample ≡ n → number sample ≡ k → Law kind L LB C read f e m
      → Law kind (λ a. Joined (Token_of kind n number k) (L a)) (λ a. Joined (Token_of kind n number k) (LB a)) (λ x. Joined (Token_of kind n number k) (C x)) (λ ts. past_counted kind n number k ts >>= read) (n ∷ []) false m
  law_count {A = A} {L = L} {LB = LB} {C = C} {read = read} {m = m} {e = e} n number k sample is counts rest = law_same kind (to L) (from L) (to LB) (from LB) to_c from_c (λ ts. skip_read (past_counted kind n number k ts) read) (λ j h. h) (stops_none m e)
      (law_made kind (λ p. p.1) (law_then kind (law_counted kind n number k sample is counts) (λ u. rest) refl))
    where
      to : (M : A → List T → Type 0) (a : A) (ts : List T) → ((p : Unit {0} × A) × (a ≡ p.1) × Both kind (Numbered kind n number k) (λ u. M) p ts) → Joined (Token_of kind n number k) (M a) ts
      to M a ts s = subst (λ b. Joined (Token_of kind n number k) (M b) ts) (sym s.1) s.2

      from : (M : A → List T → Type 0) (a : A) (ts : List T) → Joined (Token_of kind n number k) (M a) ts → ((p : Unit {0} × A) × (a ≡ p.1) × Both kind (Numbered kind n number k) (λ u. M) p ts)
      from M a ts s = ((tt, a), refl, s)

      to_c : (x : Fault) (ts : List T) → Either_crosses kind (Numbered kind n number k) (λ y us. ⊥) (λ u. C) x ts → Joined (Token_of kind n number k) (C x) ts
      to_c x ts (inl c) = absurd c
      to_c x ts (inr c) = c.1

      from_c : (x : Fault) (ts : List T) → Joined (Token_of kind n number k) (C x) ts → Either_crosses kind (Numbered kind n number k) (λ y us. ⊥) (λ u. C) x ts
      from_c x ts c = inr (tt, c)

  -- a part, and then one token of a kind

  close_read : {A : Type 0} (n : ℕ) (r : Read T A) → first_of_two (paired r (token_in kind n (λ t. tt {0}))) ≡ (r >>= λ a. past kind n a.1 >>= λ rest. Ok (a.0, rest))
  close_read {A = A} n (Ok a) = ap (λ q. first_of_two (paired (Ok a) (λ us. q))) (token_past n a.1) ∙ by (past kind n a.1)
    where
      by : (q : Result (List T) (Fault × List T)) → first_of_two (paired (Ok a) (λ us. valueless q)) ≡ (q >>= λ rest. Ok (a.0, rest))
      by (Ok rest) = refl
      by (Err x) = refl
  close_read n (Err x) = refl

  pub law_close : {A : Type 0} {L LB : A → List T → Type 0} {C : Fault → List T → Type 0} {read : List T → Read T A} {f m : List ℕ} {e : Bool}
      (n : ℕ) (sample : T) → kind sample ≡ n → Law kind L LB C read f e m → apart m (n ∷ []) ≡ true
      → Law kind (λ a. Joined (L a) (one kind n)) (λ a. Joined (LB a) (one kind n)) C (λ ts. read ts >>= λ a. past kind n a.1 >>= λ rest. Ok (a.0, rest)) (f ++ cond e (n ∷ []) []) false []
  law_close {A = A} {L = L} {LB = LB} {C = C} {read = read} {m = m} {e = e} n sample is part distinct = law_same kind (to L) (from L) (to LB) (from LB) to_c from_c (λ ts. close_read n (read ts)) (λ k h. h) (λ ts s. s)
      (law_flag kind (never_empty e) (law_made kind (λ p. p.0) (law_then kind part (λ a. law_token kind n (λ t. tt {0}) sample is) distinct)))
    where
      to : (M : A → List T → Type 0) (a : A) (ts : List T) → ((p : A × Unit {0}) × (a ≡ p.0) × Both kind M (λ b u. Token_of kind n (λ t. tt {0}) u) p ts) → Joined (M a) (one kind n) ts
      to M a ts s = subst (λ b. Joined (M b) (one kind n) ts) (sym s.1) s.2

      from : (M : A → List T → Type 0) (a : A) (ts : List T) → Joined (M a) (one kind n) ts → ((p : A × Unit {0}) × (a ≡ p.0) × Both kind M (λ b u. Token_of kind n (λ t. tt {0}) u) p ts)
      from M a ts s = ((a, tt), refl, s)

      to_c : (x : Fault) (ts : List T) → Either_crosses kind L C (λ a y us. ⊥) x ts → C x ts
      to_c x ts (inl c) = c
      to_c x ts (inr c) = absurd c.1.second

      from_c : (x : Fault) (ts : List T) → C x ts → Either_crosses kind L C (λ a y us. ⊥) x ts
      from_c x ts c = inl c
