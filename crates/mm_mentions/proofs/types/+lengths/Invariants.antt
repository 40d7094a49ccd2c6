use Rattle.std.proofs.Common.{◌≡◌, sum, map, take}
use Rattle.mm_mentions.specs.TypeMentions.{constructors}
use Rattle.mm_mentions.proofs.types.+lengths.Given as goal

abbrev pub invariant-constructors_of-loop-ty : goal.invariant-constructors_of-loop-ty
invariant-constructors_of-loop-ty l = l.total ≡ sum (map constructors (take l.ty-index l.types))
