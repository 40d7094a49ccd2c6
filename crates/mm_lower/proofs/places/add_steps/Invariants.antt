use Rattle.std.proofs.Common.{◌≡◌, ◌++◌, take}
use Rattle.mm_lower.specs.Places.{steps_of}
use Rattle.mm_lower.proofs.places.add_steps.Given as goal

abbrev pub invariant-loop-step : goal.invariant-loop-step
invariant-loop-step l = l.out ≡ l.fn.out ++ steps_of (take l.step-index l.steps)
