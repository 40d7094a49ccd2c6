use Rattle.std.proofs.Common.{rules}
use Rattle.mm_grammar.specs.Grammar.{block_end}
use Rattle.mm_parse_bodies.proofs.bodies.block_end.Goals as goal

pub returns : goal.returns
unfolding block_end
returns c = let step = c.ended.ensures _ c.end.ensures in search rules
