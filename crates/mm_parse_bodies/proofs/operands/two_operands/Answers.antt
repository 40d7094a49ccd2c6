use Rattle.std.proofs.Common.{rules}
use Rattle.mm_grammar.specs.Grammar.{two_operands}
use Rattle.mm_parse_bodies.proofs.operands.two_operands.Goals as goal

pub returns : goal.returns
unfolding two_operands
returns c = let step = c.both.ensures _ c.next_operand.ensures in search rules
