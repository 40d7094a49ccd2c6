use Rattle.std.proofs.Common.{◌≡◌, ◌++◌, take, flat_map}
use Rattle.mm_objects.specs.ObjectText.{unit_lines, written}
use Rattle.mm_objects.proofs.writing.write_units.Given as goal

abbrev pub invariant-loop-unit : goal.invariant-loop-unit
invariant-loop-unit l = l.out.items ≡ l.fn.out.items ++ written (flat_map unit_lines (take l.unit-index l.units))
