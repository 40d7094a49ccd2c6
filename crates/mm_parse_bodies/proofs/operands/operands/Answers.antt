use Rattle.std.proofs.Common.{rules}
use Rattle.mm_grammar.specs.Grammar.{operands}
use Rattle.mm_parse_bodies.proofs.operands.operands.Goals as goal

pub returns : goal.returns
unfolding operands
returns c = let step = c.ended.ensures _ (c.listed-operands.ensures _ c.more_operands.ensures) in search rules
