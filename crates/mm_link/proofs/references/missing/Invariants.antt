use Rattle.std.proofs.Common.{◌≡◌, drop}
use Rattle.std.specs.Prelude.{flat_map}
use Rattle.std.specs.List.{enumerate_from, find}
use Rattle.mm_objects.specs.Linking.{first_undefined, is_undefined, unit_references}
use Rattle.mm_link.proofs.references.missing.Given as goal

-- nothing is missing before
abbrev pub invariant-loop-position : goal.invariant-loop-position
invariant-loop-position l = find (is_undefined l.index.units) (flat_map unit_references (enumerate_from l.position (drop l.position l.index.units))) ≡ first_undefined l.index.units
