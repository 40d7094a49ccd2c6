use Rattle.std.proofs.Common.{◌≡◌, ◌++◌, drop, map}
use Rattle.std.specs.Prelude.{flat_map}
use Rattle.std.specs.List.{enumerate_from}
use Rattle.mm_link.specs.Index.{placed_at}
use Rattle.mm_link.specs.Linking.{reported}
use Rattle.mm_objects.specs.Resolution.{placed_in}
use Rattle.mm_link.proofs.clash.note_unit.Given as goal

-- what is noted, and what the definitions that are left tell, is what all tell
abbrev pub invariant-loop-position : goal.invariant-loop-position
invariant-loop-position l =
    l.clashes.items ++ flat_map (reported l.index.units) (map (placed_at l.number) (enumerate_from l.position (drop l.position l.unit.defs)))
    ≡ l.fn.clashes.items ++ flat_map (reported l.index.units) (placed_in (l.number, l.unit))
