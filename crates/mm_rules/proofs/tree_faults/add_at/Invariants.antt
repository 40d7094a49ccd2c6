use Rattle.std.proofs.Common.{◌≡◌, ◌++◌, take}
use Rattle.mm_rules.specs.TreeFaults.{faults_at}
use Rattle.mm_rules.proofs.tree_faults.add_at.Given as goal

abbrev pub invariant-loop-line : goal.invariant-loop-line
invariant-loop-line l = l.faults ≡ l.initial.faults ++ faults_at l.fn.rule (take l.line-index l.lines)
