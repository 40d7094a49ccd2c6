use Rattle.std.proofs.Common.{◌≡◌, ◌++◌, drop, map}
use Rattle.mm_link.specs.Index.{look_up, own_names}
use Rattle.mm_link.proofs.index.own_names.Given as goal

-- the names of the units so far, and those of the units that are left, are the names of all
abbrev pub invariant-loop-position : goal.invariant-loop-position
invariant-loop-position l = map look_up l.own.items ++ own_names l.position (drop l.position l.units) ≡ own_names 0 l.units
