use Rattle.std.proofs.Common.{◌≡◌, ℕ, List, take}
use Rattle.mm_mentions.specs.ImplHeads.{written_alone}
use Rattle.mm_mentions.specs.Seen.{names_of}
use Rattle.mm_mentions.proofs.impl_heads.written_alone.Given as goal

abbrev pub invariant-loop-ty : goal.invariant-loop-ty
invariant-loop-ty l = (q : List ℕ) → names_of l.names q ≡ written_alone (take l.ty-index l.types) q
