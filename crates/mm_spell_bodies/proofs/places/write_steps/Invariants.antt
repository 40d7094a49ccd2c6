use Rattle.std.proofs.Common.{◌≡◌, ◌++◌, take}
use Rattle.std.specs.Prelude.{flat_map}
use Rattle.mm_spell.specs.Listed.{kinds}
use Rattle.mm_spell_bodies.specs.BodyTokens.{step_tokens}
use Rattle.mm_spell_bodies.proofs.places.write_steps.Given as goal

abbrev pub invariant-loop-step : goal.invariant-loop-step
invariant-loop-step l = kinds l.out.items ≡ kinds l.fn.out.items ++ flat_map step_tokens (take l.step-index l.steps)
