use Rattle.std.proofs.Common.{◌∙◌, ap, sym}
use Rattle.std.specs.Option.{option_map}
use Rattle.std.specs.List.{find}
use Rattle.std.specs.Prelude.{flat_map}
use Rattle.mm_objects.specs.Linking.{def_symbols, is_undefined}
use Rattle.mm_link.proofs.Firsts.{found_here}
use Rattle.mm_link.proofs.references.missing_in_unit.Goals as goal

pub returns-in-Some : goal.returns-in-Some
returns-in-Some c =
    let us = c.args.index.now.units in
    found_here (λ s. is_undefined us (c.args.number, s)) def_symbols c.as_slice-def-items.result.now c.loop-def.def-index c.def-item.result
    (find (λ s. is_undefined us (c.args.number, s)) (flat_map def_symbols c.args.unit.now.defs)) c.in-Some.symbol.now
    c.loop-def-test.true c.def-item.is (sym c.missing_in.ensures ∙ ap (option_map (λ s. s.now)) c.in-Some.is) c.loop-def.invariant
