use Rattle.std.proofs.Common.{◌≡◌, drop}
use Rattle.std.specs.Prelude.{flat_map}
use Rattle.std.specs.List.{find}
use Rattle.mm_objects.specs.Linking.{def_symbols, end_symbols, is_undefined}
use Rattle.mm_link.proofs.references.missing_in.Given as goal

-- nothing is missing before
abbrev pub invariant-loop-block : goal.invariant-loop-block
invariant-loop-block l =
    find (λ s. is_undefined l.index.units (l.unit, s)) (flat_map (λ b. end_symbols b.end) (drop l.block-index l.block-items))
    ≡ find (λ s. is_undefined l.index.units (l.unit, s)) (def_symbols l.def)
