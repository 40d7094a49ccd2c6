use Rattle.std.proofs.Common.{◌<◌, length, take, get_or}
use Rattle.std.specs.Prelude.{◌≢◌, All}
use Rattle.std.specs.declared.cmp.Ordering.TheVariants.{Less}
use Rattle.mm_objects.specs.Linking.{clash_cmp}
use Rattle.mm_objects.specs.declared.target.Clash.{Clash}
use Rattle.mm_link.proofs.clash.least.Given as goal

-- none of those before is less than the best of them
abbrev pub invariant-loop-i : goal.invariant-loop-i
invariant-loop-i l = (l.best < length l.clashes) × ((d : Clash) → All (λ y. clash_cmp y (get_or l.clashes l.best d) ≢ Less) (take l.i l.clashes))
