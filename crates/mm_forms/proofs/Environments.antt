-- What is read of a form depends on how its parts are read, and on no more.
use Rattle.std.proofs.Common.{◌≡◌, ℕ, zero, suc, ◌+◌, ◌-◌, List, [], ◌∷◌, length, Bool, true, false, cond, ◌&&◌, ◌||◌, not, ltb, Result, Ok, Err, refl, sym, ◌∙◌, ap}
use Rattle.std.proofs.lemmas.Bool.{and_parts}
use Rattle.mm_forms.specs.declared.fault.Fault.{Fault}
use Rattle.mm_forms.specs.declared.fault.Fault.TheVariants.{TooMany}
use Rattle.mm_forms.specs.Forms.{Form, Nothing, Token, Preceded, Terminated, Numbered, Then, Or, Many, ManyNumbered, ManyBelow, Map, At, Below, Inner, ◌>>=◌, Read, begins, past, past_counted, place_in, each_in, firsts, reads}

-- whether all of the parts of a form that lead back are of these sorts
abbrev pub is_over : {T S : Type 0} {V : S → Type 0} → (S → Bool) → {A : Type 0} → Form T S V A → Bool
is_over known (Nothing b) = true
is_over known (Token n value) = true
is_over known (Preceded n f) = is_over known f
is_over known (Terminated f n) = is_over known f
is_over known (Numbered n f) = is_over known f
is_over known (Then f number g) = is_over known f && is_over known g
is_over known (Or f g) = is_over known f && is_over known g
is_over known (Many f) = is_over known f
is_over known (ManyNumbered f) = is_over known f
is_over known (ManyBelow most f) = is_over known f
is_over known (Map make f) = is_over known f
is_over known (At place f) = is_over known f
is_over known (Below most s) = known s
is_over known (Inner s) = known s

same_then : {A B E : Type 0} (r s : Result A E) (f g : A → Result B E) → r ≡ s → ((a : A) → f a ≡ g a) → (r >>= f) ≡ (s >>= g)
same_then (Ok a) s f g e h = h a ∙ ap (λ z. z >>= g) e
same_then (Err x) s f g e h = ap (λ z. z >>= g) e

same_choice : {A : Type 0} (b : Bool) (p q r s : A) → p ≡ q → r ≡ s → cond b p r ≡ cond b q s
same_choice true p q r s e h = e
same_choice false p q r s e h = h

module _ {T : Type 0} (kind number_of : T → ℕ) where
  same_each : {A : Type 0} (test : List T → Bool) (f g : ℕ → List T → Read T A) → ((k : ℕ) (ts : List T) → f k ts ≡ g k ts)
      → (n k : ℕ) (ts : List T) → each_in kind test f n k ts ≡ each_in kind test g n k ts
  same_each test f g h zero k ts = refl
  same_each test f g h (suc n) k ts =
      same_choice (test ts) (f k ts >>= λ x. each_in kind test f n (k + 1) x.1 >>= λ xs. Ok (x.0 ∷ xs.0, xs.1)) (g k ts >>= λ x. each_in kind test g n (k + 1) x.1 >>= λ xs. Ok (x.0 ∷ xs.0, xs.1)) (Ok ([], ts)) (Ok ([], ts))
      (same_then (f k ts) (g k ts) (λ x. each_in kind test f n (k + 1) x.1 >>= λ xs. Ok (x.0 ∷ xs.0, xs.1)) (λ x. each_in kind test g n (k + 1) x.1 >>= λ xs. Ok (x.0 ∷ xs.0, xs.1)) (h k ts)
      (λ x. ap (λ r. r >>= λ xs. Ok (x.0 ∷ xs.0, xs.1)) (same_each test f g h n (k + 1) x.1)))
      refl

  module _ {S : Type 0} {V : S → Type 0} (start : S → List ℕ) (known : S → Bool) (R Q : (s : S) → List T → Read T (V s)) (same : (s : S) → known s ≡ true → (ts : List T) → R s ts ≡ Q s ts) where
    -- two ways to read parts that agree on these sorts read a form over them alike
    pub alike : {A : Type 0} (f : Form T S V A) → is_over known f ≡ true → (k : ℕ) (ts : List T) → reads kind start number_of R f k ts ≡ reads kind start number_of Q f k ts
    alike (Nothing b) h k ts = refl
    alike (Token n value) h k ts = refl
    alike (Preceded n f) h k ts = same_then (past kind n ts) (past kind n ts) (λ rest. reads kind start number_of R f k rest) (λ rest. reads kind start number_of Q f k rest) refl (λ rest. alike f h k rest)
    alike (Terminated f n) h k ts = ap (λ r. r >>= λ a. past kind n a.1 >>= λ rest. Ok (a.0, rest)) (alike f h k ts)
    alike (Numbered n f) h k ts = same_then (past_counted kind n number_of k ts) (past_counted kind n number_of k ts) (λ rest. reads kind start number_of R f 0 rest) (λ rest. reads kind start number_of Q f 0 rest) refl (λ rest. alike f h 0 rest)
    alike (Then f number g) h k ts =
        let p = and_parts (is_over known f) (is_over known g) h in
        same_then (reads kind start number_of R f k ts) (reads kind start number_of Q f k ts) (λ a. reads kind start number_of R g (number a.0) a.1 >>= λ b. Ok ((a.0, b.0), b.1)) (λ a. reads kind start number_of Q g (number a.0) a.1 >>= λ b. Ok ((a.0, b.0), b.1)) (alike f p.0 k ts)
        (λ a. ap (λ r. r >>= λ b. Ok ((a.0, b.0), b.1)) (alike g p.1 (number a.0) a.1))
    alike (Or f g) h k ts =
        let p = and_parts (is_over known f) (is_over known g) h in
        same_choice (begins kind (firsts kind start f) ts) (reads kind start number_of R f k ts) (reads kind start number_of Q f k ts) (reads kind start number_of R g k ts) (reads kind start number_of Q g k ts) (alike f p.0 k ts) (alike g p.1 k ts)
    alike (Many f) h k ts = same_each (begins kind (firsts kind start f)) (λ i. reads kind start number_of R f 0) (λ i. reads kind start number_of Q f 0) (λ i. alike f h 0) (length ts) 0 ts
    alike (ManyNumbered f) h k ts = same_each (begins kind (firsts kind start f)) (reads kind start number_of R f) (reads kind start number_of Q f) (alike f h) (length ts) 0 ts
    alike (ManyBelow most f) h k ts = same_each (begins kind (firsts kind start f)) (reads kind start number_of R f) (reads kind start number_of Q f) (alike f h) (most - k) k ts
    alike (Map make f) h k ts = ap (λ r. r >>= λ a. Ok (make a.0, a.1)) (alike f h k ts)
    alike (At place f) h k ts = same_then (place_in kind place ts) (place_in kind place ts) (λ p. reads kind start number_of R f k ts >>= λ a. Ok ((p, a.0), a.1)) (λ p. reads kind start number_of Q f k ts >>= λ a. Ok ((p, a.0), a.1)) refl (λ p. ap (λ r. r >>= λ a. Ok ((p, a.0), a.1)) (alike f h k ts))
    alike (Below most s) h k ts = same_choice (ltb k most || not (begins kind (start s) ts)) (R s ts) (Q s ts) (Err (TooMany, ts)) (Err (TooMany, ts)) (same s h ts) refl
    alike (Inner s) h k ts = same s h ts
