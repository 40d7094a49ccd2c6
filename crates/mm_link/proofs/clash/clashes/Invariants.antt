use Rattle.std.proofs.Common.{◌≡◌, ◌++◌, drop}
use Rattle.std.specs.Prelude.{flat_map}
use Rattle.std.specs.List.{enumerate_from}
use Rattle.mm_link.specs.Linking.{reported}
use Rattle.mm_objects.specs.Resolution.{placed, placed_in}
use Rattle.mm_link.proofs.clash.clashes.Given as goal

-- what is noted, and what the units that are left tell, is what all tell
abbrev pub invariant-loop-position : goal.invariant-loop-position
invariant-loop-position l =
    l.found.items ++ flat_map (reported l.index.units) (flat_map placed_in (enumerate_from l.position (drop l.position l.index.units)))
    ≡ flat_map (reported l.index.units) (placed l.index.units)
