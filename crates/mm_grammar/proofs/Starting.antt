-- With which tokens a part begins, one of several kinds.
use Rattle.std.proofs.Common.{◌≡◌, ℕ, List, [], ◌∷◌, Bool, true, false, ◌||◌, eqb, refl}
use Rattle.mm_forms.specs.Forms.{has, begins}

other : (p q : Bool) → (p || false) ≡ false → q ≡ (p || q)
other true q h = cc
other false q h = refl

module _ {T : Type 0} (kind : T → ℕ) where
  -- a token that is not of the first kind is of one of the others
  pub begins_else : (n : ℕ) (ns : List ℕ) (ts : List T) → begins kind (n ∷ []) ts ≡ false → begins kind ns ts ≡ begins kind (n ∷ ns) ts
  begins_else n ns [] h = refl
  begins_else n ns (t ∷ ts) h = other (eqb (kind t) n) (has (kind t) ns) h
