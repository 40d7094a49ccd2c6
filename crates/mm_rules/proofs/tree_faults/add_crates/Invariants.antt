use Rattle.std.proofs.Common.{◌≡◌, ◌++◌, take}
use Rattle.mm_resolve.specs.Scopes.{Knows}
use Rattle.mm_rules.specs.TreeFaults.{start, behind, faults_behind, targets_of}
use Rattle.mm_rules.proofs.tree_faults.add_crates.Given as goal

abbrev pub invariant-each : goal.invariant-each
invariant-each l =
    Knows l.scope (behind start (take l.place l.crates)).scope
    × (l.faults ≡ l.initial.faults ++ faults_behind start (take l.place l.crates))
    × (l.targets ≡ l.initial.targets ++ targets_of (take l.place l.crates))
