-- What a table of first values has after one more.
use Rattle.std.proofs.Common.{◌≡◌, Bool, true, false, cond, Option, None, Some, is_some, refl, sym, ◌∙◌, ap, inl, inr}
use Rattle.std.proofs.lemmas.Bool.{cases_Bool, false≢true, cond-true, cond-false}
use Rattle.std.specs.Cmp.{IsEquivalence}
use Rattle.std.specs.Option.{option_or}

module _ {K X : Type 0} (eq : K → K → Bool) (same : IsEquivalence eq) (old : K → Option X) (respects : (q k : K) → eq q k ≡ true → old q ≡ old k) (k : K) (v : X) where
  -- what has a value keeps it
  pub first_kept : is_some (old k) ≡ true → (q : K) → old q ≡ option_or (old q) (cond (eq q k) (Some v) None)
  first_kept there q = at (eq q k) refl (old q) refl
    where
      at : (b : Bool) → eq q k ≡ b → (o : Option X) → old q ≡ o → o ≡ option_or o (cond b (Some v) None)
      at b is (Some x) has = refl
      at false is None has = refl
      at true is None has = absurd (false≢true (ap is_some (sym has ∙ respects q k is) ∙ there))

  -- what has none gets it
  pub first_added : is_some (old k) ≡ false → (new : K → Option X) → ((q : K) → new q ≡ cond (eq k q) (Some v) (old q)) → (q : K) → new q ≡ option_or (old q) (cond (eq q k) (Some v) None)
  first_added absent new after q = after q ∙ ap (λ b. cond b (Some v) (old q)) (same.symm k q) ∙ at (eq q k) refl (old q) refl
    where
      at : (b : Bool) → eq q k ≡ b → (o : Option X) → old q ≡ o → cond b (Some v) o ≡ option_or o (cond b (Some v) None)
      at false is None has = refl
      at false is (Some x) has = refl
      at true is None has = refl
      at true is (Some x) has = absurd (false≢true (sym absent ∙ ap is_some (sym (respects q k is) ∙ has)))
