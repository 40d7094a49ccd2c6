use Rattle.std.proofs.Common.{◌≡◌, arith, subst, ℕ, List, true}
use Rattle.std.specs.Option.{option_or}
use Rattle.mm_link.specs.Index.{found_from, look_up}
use Rattle.mm_objects.specs.Resolution.{shared_in}
use Rattle.mm_link.proofs.Names.{share_more}
use Rattle.mm_link.proofs.index.shared_names.Goals as goal

pub loop-position-preserved : goal.loop-position-preserved
loop-position-preserved c =
    let units = c.args.units.now in
    let unit = c.index-units-position.result in
    let n = c.loop-position.position in
    let same : c.in-Ok.number ≡ n = omega arith in
    share_more units n unit (look_up c.loop-position.names) (look_up c.note_unit.new.names) (shared_in units) c.loop-position-test.true c.index-units-position.is
    (subst (λ k. (s : List ℕ) → look_up c.note_unit.new.names s ≡ option_or (look_up c.loop-position.names s) (found_from true k 0 unit.defs s)) same c.in_ok-note_unit.ensures)
    c.loop-position.invariant
