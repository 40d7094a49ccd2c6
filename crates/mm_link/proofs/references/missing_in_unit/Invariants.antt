use Rattle.std.proofs.Common.{◌≡◌, drop}
use Rattle.std.specs.Prelude.{flat_map}
use Rattle.std.specs.List.{find}
use Rattle.mm_objects.specs.Linking.{def_symbols, is_undefined}
use Rattle.mm_link.proofs.references.missing_in_unit.Given as goal

-- nothing is missing before
abbrev pub invariant-loop-def : goal.invariant-loop-def
invariant-loop-def l =
    find (λ s. is_undefined l.index.units (l.number, s)) (flat_map def_symbols (drop l.def-index l.def-items))
    ≡ find (λ s. is_undefined l.index.units (l.number, s)) (flat_map def_symbols l.unit.defs)
