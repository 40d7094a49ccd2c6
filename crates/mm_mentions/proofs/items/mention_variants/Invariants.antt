use Rattle.std.proofs.Common.{◌≡◌, ◌++◌, take}
use Rattle.std.specs.List.{flat_map}
use Rattle.mm_mentions.specs.Seen.{seen}
use Rattle.mm_mentions.specs.TypeMentions.{written_types}
use Rattle.mm_mentions.proofs.items.mention_variants.Given as goal

abbrev pub invariant-loop-variant : goal.invariant-loop-variant
invariant-loop-variant l = l.out.items ≡ l.fn.out.items ++ flat_map (λ v. written_types (seen l.scope) v.fields) (take l.variant-index l.variants)
