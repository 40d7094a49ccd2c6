-- Parts that nest no deeper than so many levels, one level at a time.
use Rattle.std.proofs.Common.{◌≡◌, ℕ, zero, suc, ◌-◌, List, refl, sym, ap, arith}
use Rattle.mm_forms.specs.Forms.{Form, Read, reads}
use Rattle.mm_forms.specs.Nesting.{none_in, within_in}

module _ {T : Type 0} (kind number_of : T → ℕ) {S : Type 0} {V : S → Type 0} (start : S → List ℕ) {A : Type 0} (level : Form T S V A) (starts : List ℕ)
    (readers : (List T → Read T A) → (s : S) → List T → Read T (V s)) where
  pub no_level : (n : ℕ) (ts : List T) → n ≡ 0 → within_in kind number_of start level starts readers n ts ≡ none_in kind number_of start level starts readers ts
  unfolding within_in
  no_level n ts e = ap (λ m. within_in kind number_of start level starts readers m ts) e

  pub one_level : (n : ℕ) (ts : List T) → (n ≡ 0 → ⊥)
      → within_in kind number_of start level starts readers n ts ≡ reads kind start number_of (readers (within_in kind number_of start level starts readers (n - 1))) level 0 ts
  unfolding within_in
  one_level zero ts h = absurd (h refl)
  one_level (suc n) ts h =
      let e : suc n - 1 ≡ n = omega arith in
      ap (λ m. reads kind start number_of (readers (within_in kind number_of start level starts readers m)) level 0 ts) (sym e)
