use Rattle.std.proofs.Common.{◌≡◌, ◌++◌, take}
use Rattle.std.specs.List.{flat_map}
use Rattle.mm_mentions.specs.BodyMentions.{block_mentions}
use Rattle.mm_mentions.specs.Seen.{seen}
use Rattle.mm_mentions.proofs.blocks.mention_blocks.Given as goal

abbrev pub invariant-loop-block : goal.invariant-loop-block
invariant-loop-block l = l.out.items ≡ l.fn.out.items ++ flat_map (block_mentions (seen l.scope) l.frame) (take l.block-index l.blocks)
