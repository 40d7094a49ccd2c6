use Rattle.std.proofs.Common.{◌≡◌, ◌-◌, drop, length}
use Rattle.mm_objects.specs.LineReading.{is_path_cut}
use Rattle.mm_objects.proofs.PieceLemmas.{seen}
use Rattle.mm_objects.proofs.unit_name.is_path_cut.Given as goal

abbrev pub invariant-each : goal.invariant-each
invariant-each l = is_path_cut (seen l.parts) ≡ is_path_cut (seen (drop l.at l.parts))

abbrev pub decreases-each : goal.decreases-each
decreases-each l = length l.parts - l.at
