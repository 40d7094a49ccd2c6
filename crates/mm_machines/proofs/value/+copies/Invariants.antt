use Rattle.std.proofs.Common.{◌≡◌, ◌++◌, drop}
use Rattle.mm_machines.proofs.value.+copies.Given as goal

-- the copies so far, and the values that are left, are the values
abbrev pub invariant-duplicate_all-loop-value : goal.invariant-duplicate_all-loop-value
invariant-duplicate_all-loop-value g l = l.copies.items ++ drop l.value-index l.values ≡ l.values
