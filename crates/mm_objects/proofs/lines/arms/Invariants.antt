use Rattle.std.proofs.Common.{◌≡◌, drop}
use Rattle.mm_objects.specs.LineReading.{all_in, arm_in}
use Rattle.mm_objects.proofs.PieceLemmas.{seen, with_prefix}
use Rattle.mm_objects.proofs.lines.arms.Given as goal

abbrev pub invariant-loop-word : goal.invariant-loop-word
invariant-loop-word l = all_in (arm_in l.blocks) (seen l.words) ≡ with_prefix l.arms (all_in (arm_in l.blocks) (seen (drop l.word-index l.words)))
