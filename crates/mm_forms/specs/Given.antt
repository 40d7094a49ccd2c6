-- What a function of the reader returned, beside what reading gives.
use Rattle.std.specs.Prelude.{◌≡◌, ℕ, List, length, Result, Ok, Err}
use Rattle.mm_forms.specs.declared.fault.Fault.{Fault}
use Rattle.mm_forms.specs.declared.fault.Stop.{Stop}
use Rattle.mm_forms.specs.declared.fault.Stop.TheVariants.{At, NoMemory}

-- nothing is read, for this fault, and so many tokens are left from the faulty one on
pub record Fails {T Y : Type 0} (fault : Fault) (left : ℕ) (read : Result Y (Fault × List T)) : Type 0 where
  pub rest : List T
  pub is : read ≡ Err (fault, rest)
  pub left_is : length rest ≡ left

abbrev pub Stops : {T Y : Type 0} → Stop → Result Y (Fault × List T) → Type 0
Stops (At fault left) read = Fails fault left read
Stops NoMemory read = Unit {0}

-- the result, as the view sees it, is what is read; want of memory is free
abbrev pub Gives : {T X Y : Type 0} → (X → Y) → Result X Stop → Result Y (Fault × List T) → Type 0
Gives view (Ok x) read = read ≡ Ok (view x)
Gives view (Err e) read = Stops e read
