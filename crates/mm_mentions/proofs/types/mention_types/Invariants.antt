use Rattle.std.proofs.Common.{◌≡◌, ◌++◌, take}
use Rattle.mm_mentions.specs.Seen.{seen}
use Rattle.mm_mentions.specs.TypeMentions.{written_types}
use Rattle.mm_mentions.proofs.types.mention_types.Given as goal

abbrev pub invariant-loop-ty : goal.invariant-loop-ty
invariant-loop-ty l = l.out.items ≡ l.fn.out.items ++ written_types (seen l.scope) (take l.ty-index l.types)
