use Rattle.std.proofs.Common.{◌≡◌, drop}
use Rattle.mm_objects.specs.LineReading.{all_in, operand_in}
use Rattle.mm_objects.proofs.PieceLemmas.{seen, with_prefix}
use Rattle.mm_objects.proofs.lines.operands.Given as goal

abbrev pub invariant-loop-word : goal.invariant-loop-word
invariant-loop-word l = all_in (operand_in l.locals) (seen l.words) ≡ with_prefix l.operands (all_in (operand_in l.locals) (seen (drop l.word-index l.words)))
