-- What follows where no line is reported: nothing is reported of any part.
use Rattle.std.proofs.Common.{◌≡◌, ℕ, List, [], ◌∷◌, ◌++◌, Bool, true, false, not, Option, None, Some, refl}
use Rattle.std.specs.Prelude.{All, is_none}
use Rattle.std.specs.List.{flat_map}
use Rattle.std.proofs.lemmas.List.Elements.{All-nil, All-cons}
use Rattle.mm_load_plain.specs.Rules.{line_if}

pub none_both : {A : Type 0} (xs ys : List A) → xs ++ ys ≡ [] → (xs ≡ []) × (ys ≡ [])
none_both [] ys h = (refl, h)
none_both (x ∷ xs) ys h = cc

pub none_each : {A B : Type 0} (f : A → List B) (xs : List A) → flat_map f xs ≡ [] → All (λ x. f x ≡ []) xs
none_each f [] h = All-nil (λ x. f x ≡ [])
none_each f (x ∷ xs) h =
    let parts = none_both (f x) (flat_map f xs) h in
    All-cons (λ x. f x ≡ []) x xs parts.0 (none_each f xs parts.1)

-- a test that reports nothing fails
pub none_if : (test : Bool) (line : ℕ) → line_if test line ≡ [] → test ≡ false
none_if true line h = cc
none_if false line h = refl

pub none_unless : (test : Bool) (line : ℕ) → line_if (not test) line ≡ [] → test ≡ true
none_unless true line h = refl
none_unless false line h = cc

pub some_of : {A : Type 0} (o : Option A) (line : ℕ) → line_if (is_none o) line ≡ [] → (x : A) × (o ≡ Some x)
some_of (Some x) line h = (x, refl)
some_of None line h = cc
