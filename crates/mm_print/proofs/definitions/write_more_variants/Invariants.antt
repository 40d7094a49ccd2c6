use Rattle.std.proofs.Common.{◌≡◌, ◌++◌, map, take}
use Rattle.std.specs.Prelude.{flat_map}
use Rattle.mm_spell.specs.Listed.{kinds, behind_comma}
use Rattle.mm_print.specs.ItemTokens.{variant_tokens}
use Rattle.mm_print.proofs.definitions.write_more_variants.Given as goal

abbrev pub invariant-loop-variant : goal.invariant-loop-variant
invariant-loop-variant l = kinds l.out.items ≡ kinds l.fn.out.items ++ flat_map behind_comma (map variant_tokens (take l.variant-index l.variants))
