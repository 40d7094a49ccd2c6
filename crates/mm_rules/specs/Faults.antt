-- Faults of a tree, and which is the first.
use Rattle.std.specs.Prelude.{◌≡◌, ℕ, ◌<◌, ◌≤◌, ◌⊎◌, List, All, Contains}
use Rattle.mm_rules.specs.declared.fault.CrateRule.{CrateRule}
use Rattle.mm_rules.specs.declared.fault.CrateRule.TheVariants.{UnknownName, PrivateName, DoubleName, WrongArity, BadMain, FreeParam, BadDropImpl, Overlap, Orphan, NotDyn, BadPlace, BadConst, LongType}
use Rattle.mm_rules.specs.declared.fault.Fault.{Fault}

-- the place of a rule among the rules
abbrev pub place_of : CrateRule → ℕ
place_of UnknownName = 0
place_of PrivateName = 1
place_of DoubleName = 2
place_of WrongArity = 3
place_of BadMain = 4
place_of FreeParam = 5
place_of BadDropImpl = 6
place_of Overlap = 7
place_of Orphan = 8
place_of NotDyn = 9
place_of BadPlace = 10
place_of BadConst = 11
place_of LongType = 12

-- a fault comes no later than another: its rule is asked earlier, or it is the same rule, and its line comes no later
abbrev pub NoLater : Fault → Fault → Type 0
NoLater f g = (place_of f.rule < place_of g.rule) ⊎ ((f.rule ≡ g.rule) × (f.line ≤ g.line))

-- it is one of the faults, and comes no later than each of them
pub record IsFirst (faults : List Fault) (fault : Fault) : Type 0 where
  pub one : Contains faults fault
  pub first : All (NoLater fault) faults
