use Rattle.std.proofs.Common.{◌≡◌, ℕ, List, subst}
use Rattle.std.specs.Prelude.{slice_get}
use Rattle.mm_link.specs.Index.{look_up, look_up_if, own_in}
use Rattle.mm_objects.specs.Resolution.{shared_in}
use Rattle.mm_link.proofs.Finding.{own_found}
use Rattle.mm_link.proofs.index.Index.new.Goals as goal

pub invariant_of-result : goal.invariant_of-result
invariant_of-result c =
    let shared = c.in_ok-shared.shared in
    let own = c.in_ok-own.own.items in
    subst
    (λ us. ((s : List ℕ) → look_up shared s ≡ shared_in us s) × ((unit : ℕ) (s : List ℕ) → look_up_if (slice_get own unit) s ≡ own_in us unit s))
    c.as_slice-units.ensures
    (c.in_ok-shared.ensures, own_found own c.as_slice-units.result.now c.in_ok-own.ensures)
