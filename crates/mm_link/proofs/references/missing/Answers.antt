use Rattle.std.proofs.Common.{◌≡◌, ◌∙◌, ◌<◌, ap, arith, get_or, length, subst, sym}
use Rattle.std.specs.Option.{option_map}
use Rattle.std.specs.List.{find}
use Rattle.mm_objects.specs.Linking.{first_undefined, is_undefined, unit_references}
use Rattle.mm_link.proofs.Firsts.{found_there, missed_there}
use Rattle.mm_link.proofs.references.missing.Goals as goal

pub returns-in-Some : goal.returns-in-Some
returns-in-Some c =
    let us = c.args.index.now.units in
    let unit = c.unit-item.result in
    let at = c.loop-position.position in
    let same : c.in-Ok.number ≡ at = omega arith in
    found_there (is_undefined us) unit_references us at unit (first_undefined us) (c.in-Some.reference.unit, c.in-Some.reference.symbol)
    (subst (λ l. at < length l) c.units-unit-items.ensures c.loop-position-test.true)
    (subst (λ l. unit ≡ get_or l at unit) c.units-unit-items.ensures c.unit-item.is)
    (ap (λ n. find (is_undefined us) (unit_references (n, unit))) (sym same) ∙ sym c.in_ok-reference.ensures ∙ ap (option_map (λ r. (r.unit, r.symbol))) c.in-Some.is)
    c.loop-position.invariant

pub loop-position-preserved : goal.loop-position-preserved
loop-position-preserved c =
    let us = c.args.index.now.units in
    let unit = c.unit-item.result in
    let at = c.loop-position.position in
    let same : c.in-Ok.number ≡ at = omega arith in
    missed_there (is_undefined us) unit_references us at unit (first_undefined us)
    (subst (λ l. at < length l) c.units-unit-items.ensures c.loop-position-test.true)
    (subst (λ l. unit ≡ get_or l at unit) c.units-unit-items.ensures c.unit-item.is)
    (ap (λ n. find (is_undefined us) (unit_references (n, unit))) (sym same) ∙ sym c.in_ok-reference.ensures ∙ ap (option_map (λ r. (r.unit, r.symbol))) c.in-None.is)
    c.loop-position.invariant
