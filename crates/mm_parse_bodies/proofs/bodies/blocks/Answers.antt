use Rattle.std.proofs.Common.{rules}
use Rattle.mm_grammar.specs.Grammar.{blocks}
use Rattle.mm_parse_bodies.proofs.bodies.blocks.Goals as goal

pub returns : goal.returns
unfolding blocks
returns c = let step = c.listed.ensures _ c.more_blocks.ensures in search rules
