use Rattle.std.proofs.Common.{map, take}
use Rattle.mm_tool.specs.WordReading.{Give}
use Rattle.mm_tool.proofs.limits.read_limits.Given as goal

abbrev pub invariant-loop-word : goal.invariant-loop-word
invariant-loop-word l = Give (map (λ w. w.now) (take l.word-index l.options)) l.given
