-- Parts that lead back to themselves: within so many levels, and past them.
use Rattle.std.specs.Prelude.{◌≡◌, ℕ, zero, suc, List, Bool, true, false, cond, Err}
use Rattle.mm_forms.specs.Language.{Opens}
use Rattle.mm_forms.specs.Forms.{Form, Read, begins, spells, crosses, reads}
use Rattle.mm_forms.specs.declared.fault.Fault.{Fault}
use Rattle.mm_forms.specs.declared.fault.Fault.TheVariants.{Unfit, TooDeep}

-- A part is one level over parts of its own sort and of others: `languages` says what spells a part of each sort, given what
-- spells one of its own.
module _ {T : Type 0} (kind number_of : T → ℕ) {S : Type 0} {V : S → Type 0} {A : Type 0} (level : Form T S V A)
    (languages : Bool → (A → List T → Type 0) → (s : S) → V s → List T → Type 0) where
  -- these tokens spell it, and it nests at most so many levels deep
  unfoldable pub within : Bool → ℕ → A → List T → Type 0
  within limited zero a ts = ⊥
  within limited (suc n) a ts = spells kind number_of limited (languages limited (within limited n)) level 0 a ts

  -- these tokens spell it, however deep it nests
  pub record Nested (a : A) (ts : List T) : Type 0 where
    pub levels : ℕ
    pub spelled : within false levels a ts

  -- what spells it: within the limit or, where limits do not count, however deep
  abbrev pub nests : ℕ → Bool → A → List T → Type 0
  nests most true = within true most
  nests most false = Nested

  module _ (crossings : (Fault → List T → Type 0) → S → Fault → List T → Type 0) where
    -- the front of what spells it, up to the token that opens a level past so many
    unfoldable pub beyond : ℕ → Fault → List T → Type 0
    beyond zero x ts = (x ≡ TooDeep) × Opens Nested ts
    beyond (suc n) x ts = crosses kind number_of true (languages true (within true n)) (λ s. Opens (languages false Nested s)) (crossings (beyond n)) level 0 x ts

-- How it is read: `readers` reads a part of each sort, given how one of its own is read.
module _ {T : Type 0} (kind number_of : T → ℕ) {S : Type 0} {V : S → Type 0} (start : S → List ℕ) {A : Type 0} (level : Form T S V A) (starts : List ℕ)
    (readers : (List T → Read T A) → (s : S) → List T → Read T (V s)) where
  -- what is wrong where no level is left
  unfoldable pub none_in : List T → Read T A
  none_in ts = cond (begins kind starts ts) (Err (TooDeep, ts)) (Err (Unfit, ts))

  -- what is read where so many levels are left
  unfoldable pub within_in : ℕ → List T → Read T A
  within_in zero ts = none_in ts
  within_in (suc n) ts = reads kind start number_of (readers (within_in n)) level 0 ts
