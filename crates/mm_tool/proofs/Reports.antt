-- What a source tells, and what is reported then.
use Rattle.std.proofs.Common.{◌≡◌, ℕ, List, ◌++◌, Option, Some, None, IfSome, sym, ◌∙◌, ap, subst}
use Rattle.std.proofs.lemmas.List.{append-nil}
use Rattle.std.specs.Io.KnownBytes.{Consumes, IsAtEnd}
use Rattle.mm_outside.specs.Whole.{ReadsWhole}

pub IfSome-all : {A : Type 0} (o : Option A) (P : A → Type 0) → ((x : A) → P x) → IfSome o P
IfSome-all None P each = tt
IfSome-all (Some x) P each = each x

pub IfSome-then : {A : Type 0} (o : Option A) (P Q : A → Type 0) → IfSome o P → ((x : A) → P x → Q x) → IfSome o Q
IfSome-then None P Q some each = tt
IfSome-then (Some x) P Q some each = each x some

taken : (P : List ℕ → Type 0) (old new : Option (List ℕ)) (bytes : List ℕ) → Consumes old new bytes → IsAtEnd new → P bytes → IfSome old P
taken P None new bytes took end holds = tt
taken P (Some xs) None bytes took end holds = absurd took
taken P (Some xs) (Some ys) bytes took end holds = subst P (sym (took ∙ ap (λ rest. bytes ++ rest) end ∙ append-nil bytes)) holds

-- what holds of the bytes of a whole read holds of all that was left
pub all_read : (P : List ℕ → Type 0) (limit : ℕ) (old new : Option (List ℕ)) (bytes : List ℕ) → ReadsWhole limit old new bytes → P bytes → IfSome old P
all_read P limit old new bytes read holds = taken P old new bytes read.took read.end holds

-- one status and one output
abbrev pub Same : ℕ → ℕ → List ℕ → List ℕ → Type 0
Same s t a b = (s ≡ t) × (a ≡ b)
