use Rattle.std.proofs.Common.{rules}
use Rattle.mm_grammar.specs.Grammar.{switch_head}
use Rattle.mm_parse_bodies.proofs.ends.switch_head.Goals as goal

pub returns : goal.returns
unfolding switch_head
returns c = let step = c.ended.ensures _ c.operand.ensures in search rules
