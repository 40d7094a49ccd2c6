use Rattle.std.proofs.Common.{◌≡◌, ◌++◌, take}
use Rattle.mm_mentions.specs.FunctionMentions.{bounds_mentions}
use Rattle.mm_mentions.specs.Seen.{seen}
use Rattle.mm_mentions.proofs.functions.mention_bounds.Given as goal

abbrev pub invariant-loop-bound : goal.invariant-loop-bound
invariant-loop-bound l = l.out.items ≡ l.fn.out.items ++ bounds_mentions (seen l.scope) (take l.bound-index l.bounds)
