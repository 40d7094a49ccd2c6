use Rattle.std.proofs.Common.{◌≡◌, take}
use Rattle.mm_rules.specs.TreeFaults.{start, all_defined, behind}
use Rattle.mm_rules.proofs.tree_faults.all_definitions.Given as goal

abbrev pub invariant-loop-krate : goal.invariant-loop-krate
invariant-loop-krate l =
    (l.defined.items ≡ all_defined start (take l.krate-index l.crates))
    × (l.first ≡ (behind start (take l.krate-index l.crates)).count)
