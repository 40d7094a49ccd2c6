use Rattle.std.proofs.Common.{◌≡◌, ◌++◌, map, take}
use Rattle.mm_mentions.specs.Frames.{label_mention}
use Rattle.mm_mentions.proofs.frame.mention_arms.Given as goal

abbrev pub invariant-loop-arm : goal.invariant-loop-arm
invariant-loop-arm l = l.out.items ≡ l.fn.out.items ++ map (λ arm. label_mention l.frame arm.label) (take l.arm-index l.arms)
