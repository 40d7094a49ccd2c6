-- What a function that asks a rule returned.
use Rattle.std.specs.Prelude.{◌≡◌, ℕ, List, [], Some, Result, Ok, Err}
use Rattle.std.specs.List.{slice_get}
use Rattle.mm_ast.specs.declared.items.Crate.{Crate}
use Rattle.mm_load_plain.specs.declared.rule.Rule.{Rule}
use Rattle.mm_load_plain.specs.declared.load_error.LoadError as errors
use Rattle.mm_load_plain.specs.declared.load_error.LoadError.TheVariants.{Rule as Broken, NotBuilt, NoMemory}
use Rattle.mm_load_plain.specs.Rules.{KeepsIn, IsFirstIn}

-- what it reported: the first line of this rule, or out of memory
abbrev pub reported : Rule → List ℕ → errors.LoadError → Type 0
reported rule lines (Broken which line) = (which ≡ rule) × (slice_get lines 0 ≡ Some line)
reported rule lines NotBuilt = ⊥
reported rule lines NoMemory = Unit {0}

abbrev pub answered : Rule → List ℕ → Result (Unit {0}) errors.LoadError → Type 0
answered rule lines (Ok u) = lines ≡ []
answered rule lines (Err e) = reported rule lines e

-- it went well where the rule fails on no line, and else reported the first one; out of memory is free
pub record Reports (rule : Rule) (lines : List ℕ) (result : Result (Unit {0}) errors.LoadError) : Type 0 where
  pub answer : answered rule lines result

-- all rules were asked of a crate, in their order; out of memory is free
abbrev pub Judges : Crate → Result (Unit {0}) errors.LoadError → Type 0
Judges krate (Ok u) = KeepsIn krate
Judges krate (Err (Broken rule line)) = IsFirstIn krate rule line
Judges krate (Err NotBuilt) = ⊥
Judges krate (Err NoMemory) = Unit {0}
