use Rattle.std.proofs.Common.{◌≡◌, ◌++◌, take}
use Rattle.mm_mentions.specs.BodyMentions.{operands_mentions}
use Rattle.mm_mentions.specs.Seen.{seen}
use Rattle.mm_mentions.proofs.operands.mention_operands.Given as goal

abbrev pub invariant-loop-operand : goal.invariant-loop-operand
invariant-loop-operand l = l.out.items ≡ l.fn.out.items ++ operands_mentions (seen l.scope) l.frame (take l.operand-index l.operands)
