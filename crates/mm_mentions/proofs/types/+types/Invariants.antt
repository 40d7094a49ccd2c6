use Rattle.std.proofs.Common.{◌≡◌, ◌++◌, take}
use Rattle.mm_mentions.specs.Seen.{seen}
use Rattle.mm_mentions.specs.TypeMentions.{names_in_all}
use Rattle.mm_mentions.proofs.types.+types.Given as goal

abbrev pub invariant-mention_names_in-loop-ty : goal.invariant-mention_names_in-loop-ty
invariant-mention_names_in-loop-ty l = l.out.items ≡ l.fn.out.items ++ names_in_all l.in_where (seen l.scope) (take l.ty-index l.types)
