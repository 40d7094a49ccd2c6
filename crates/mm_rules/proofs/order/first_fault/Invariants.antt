use Rattle.std.proofs.Common.{◌∷◌, take}
use Rattle.mm_rules.specs.Faults.{IsFirst}
use Rattle.mm_rules.proofs.order.first_fault.Given as goal

abbrev pub invariant-loop-fault : goal.invariant-loop-fault
invariant-loop-fault l = IsFirst (l.initial.least ∷ take l.fault-index l.others) l.least
