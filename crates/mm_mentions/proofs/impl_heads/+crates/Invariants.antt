use Rattle.std.proofs.Common.{◌≡◌, false, take}
use Rattle.std.specs.List.{list_any}
use Rattle.mm_mentions.specs.ImplHeads.{names_crate}
use Rattle.mm_mentions.proofs.impl_heads.+crates.Given as goal

abbrev pub invariant-name_crate-loop-ty : goal.invariant-name_crate-loop-ty
invariant-name_crate-loop-ty l = list_any (names_crate l.krate) (take l.ty-index l.types) ≡ false
