use Rattle.std.proofs.Common.{◌≡◌, ◌++◌, ℕ, List, take}
use Rattle.std.specs.List.{flat_map}
use Rattle.mm_resolve.specs.Doubles.{repeated, Holds}
use Rattle.mm_resolve.proofs.double_name.add_each_inner.Given as goal

abbrev pub invariant-loop-method : goal.invariant-loop-method
invariant-loop-method g l = (before : List (List ℕ)) → Holds l.outside before → l.lines ≡ l.initial.lines ++ flat_map (λ m. repeated before (g.T.HasParams.params m)) (take l.method-index l.methods)
