use Rattle.std.proofs.Common.{◌≡◌, ◌++◌, take}
use Rattle.std.specs.Prelude.{flat_map}
use Rattle.mm_spell.specs.Listed.{kinds}
use Rattle.mm_spell_bodies.specs.BodyTokens.{arm_tokens}
use Rattle.mm_spell_bodies.proofs.ends.write_arms.Given as goal

abbrev pub invariant-loop-arm : goal.invariant-loop-arm
invariant-loop-arm l = kinds l.out.items ≡ kinds l.fn.out.items ++ flat_map arm_tokens (take l.arm-index l.arms)
