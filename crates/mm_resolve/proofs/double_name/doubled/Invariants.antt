use Rattle.std.proofs.Common.{◌≡◌, ◌++◌, take}
use Rattle.std.specs.List.{flat_map}
use Rattle.mm_resolve.specs.Doubles.{double_in_items}
use Rattle.mm_resolve.proofs.double_name.doubled.Given as goal

abbrev pub invariant-loop-krate : goal.invariant-loop-krate
invariant-loop-krate l = l.lines ≡ l.initial.lines ++ flat_map (λ krate. double_in_items krate.items) (take l.krate-index l.crates)
