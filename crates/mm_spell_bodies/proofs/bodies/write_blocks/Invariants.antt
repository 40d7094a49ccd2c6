use Rattle.std.proofs.Common.{◌≡◌, ◌++◌, drop}
use Rattle.mm_spell.specs.Listed.{kinds}
use Rattle.mm_spell_bodies.specs.BodyTokens.{blocks_tokens}
use Rattle.mm_spell_bodies.proofs.bodies.write_blocks.Given as goal

-- what is written, and the blocks that are left, are all blocks
abbrev pub invariant-loop-number : goal.invariant-loop-number
invariant-loop-number l = kinds l.out.items ++ blocks_tokens l.number (drop l.number l.blocks) ≡ kinds l.fn.out.items ++ blocks_tokens 0 l.blocks
