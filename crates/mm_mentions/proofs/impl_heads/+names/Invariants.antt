use Rattle.std.proofs.Common.{◌≡◌, ℕ, List, ◌||◌, take}
use Rattle.mm_mentions.specs.ImplHeads.{occurring}
use Rattle.mm_mentions.specs.Seen.{names_of}
use Rattle.mm_mentions.proofs.impl_heads.+names.Given as goal

abbrev pub invariant-gather_all-loop-ty : goal.invariant-gather_all-loop-ty
invariant-gather_all-loop-ty l = (q : List ℕ) → names_of l.names q ≡ (names_of l.fn.names q || occurring (take l.ty-index l.types) q)
