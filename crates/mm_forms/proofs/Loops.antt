-- The step of a loop that reads things one after the other.
use Rattle.std.proofs.Common.{◌≡◌, ℕ, suc, ◌+◌, ◌-◌, ◌<◌, List, [], ◌∷◌, ◌++◌, Bool, true, Ok, Err, refl, sym, ◌∙◌, ap, append_assoc, arith}
use Rattle.std.proofs.lemmas.Bool.{cond-true}
use Rattle.mm_forms.specs.Forms.{◌>>=◌, Read, each_in}

-- what a loop has read, and then what is read of the others
abbrev pub with_front : {T A : Type 0} → List A → Read T (List A) → Read T (List A)
with_front xs read = read >>= λ x. Ok (xs ++ x.0, x.1)

module _ {T : Type 0} (kind : T → ℕ) where
  front_more : {A : Type 0} (xs : List A) (x : A) (r : Read T (List A)) → with_front xs (r >>= λ ys. Ok (x ∷ ys.0, ys.1)) ≡ with_front (xs ++ x ∷ []) r
  front_more xs x (Ok p) = ap (λ l. Ok (l, p.1)) (sym (append_assoc xs (x ∷ []) p.0))
  front_more xs x (Err e) = refl

  one_more : {A : Type 0} (begins : List T → Bool) (read : ℕ → List T → Read T A) (m k : ℕ) (ts after : List T) (x : A) (xs : List A) → begins ts ≡ true → read k ts ≡ Ok (x, after)
      → with_front xs (each_in kind begins read (suc m) k ts) ≡ with_front (xs ++ x ∷ []) (each_in kind begins read m (k + 1) after)
  one_more begins read m k ts after x xs b r =
      ap (with_front xs) (cond-true (begins ts) (read k ts >>= λ x. each_in kind begins read m (k + 1) x.1 >>= λ xs. Ok (x.0 ∷ xs.0, xs.1)) (Ok ([], ts)) b ∙ ap (λ s. s >>= λ x. each_in kind begins read m (k + 1) x.1 >>= λ xs. Ok (x.0 ∷ xs.0, xs.1)) r)
      ∙ front_more xs x (each_in kind begins read m (k + 1) after)

  -- what a loop keeps after one more turn
  pub each_step : {A : Type 0} (begins : List T → Bool) (read : ℕ → List T → Read T A) (n k : ℕ) (ts after : List T) (x : A) (xs more : List A) (whole : Read T (List A))
      → whole ≡ with_front xs (each_in kind begins read (n - k) k ts) → k < n → begins ts ≡ true → read k ts ≡ Ok (x, after) → more ≡ xs ++ x ∷ []
      → whole ≡ with_front more (each_in kind begins read (n - (k + 1)) (k + 1) after)
  each_step begins read n k ts after x xs more whole so_far l b r grown =
      let e : n - k ≡ suc (n - (k + 1)) = omega arith in
      so_far ∙ ap (λ m. with_front xs (each_in kind begins read m k ts)) e ∙ one_more begins read (n - (k + 1)) k ts after x xs b r ∙ ap (λ ys. with_front ys (each_in kind begins read (n - (k + 1)) (k + 1) after)) (sym grown)
