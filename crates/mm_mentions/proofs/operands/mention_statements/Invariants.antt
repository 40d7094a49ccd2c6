use Rattle.std.proofs.Common.{◌≡◌, ◌++◌, take}
use Rattle.std.specs.List.{flat_map}
use Rattle.mm_mentions.specs.BodyMentions.{statement_mentions}
use Rattle.mm_mentions.specs.Seen.{seen}
use Rattle.mm_mentions.proofs.operands.mention_statements.Given as goal

abbrev pub invariant-loop-statement : goal.invariant-loop-statement
invariant-loop-statement l = l.out.items ≡ l.fn.out.items ++ flat_map (statement_mentions (seen l.scope) l.frame) (take l.statement-index l.statements)
