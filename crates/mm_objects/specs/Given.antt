-- What a reader of a line returned, beside what reading gives.
use Rattle.std.specs.Prelude.{◌≡◌, ℕ, Option, Some, None, Result, Ok, Err}
use Rattle.mm_objects.specs.declared.line_error.LineError.{LineError}
use Rattle.mm_objects.specs.declared.line_error.LineError.TheVariants.{Unfit, NoMemory}
use Rattle.mm_objects.specs.declared.fault.ObjFault.{ObjFault}
use Rattle.mm_objects.specs.declared.fault.ObjFault.TheVariants as faults

-- it is what is read, unless memory ran out
abbrev pub Gives : {X : Type 0} → Result X LineError → Option X → Type 0
Gives (Ok x) read = read ≡ Some x
Gives (Err Unfit) read = read ≡ None
Gives (Err NoMemory) read = Unit {0}

-- it is what is read, or the number of the line that does not fit, unless memory ran out
abbrev pub GivesAt : {X : Type 0} → Result X ObjFault → Result X ℕ → Type 0
GivesAt (Ok x) read = read ≡ Ok x
GivesAt (Err (faults.BadObjects n)) read = read ≡ Err n
GivesAt (Err faults.NoMemory) read = Unit {0}
