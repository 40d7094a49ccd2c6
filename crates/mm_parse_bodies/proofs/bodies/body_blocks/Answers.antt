use Rattle.std.proofs.Common.{rules}
use Rattle.mm_grammar.specs.Grammar.{body_blocks}
use Rattle.mm_parse_bodies.proofs.bodies.body_blocks.Goals as goal

pub returns : goal.returns
unfolding body_blocks
returns c = let step = c.ended.ensures _ c.blocks-2.ensures in search rules
