use Rattle.std.proofs.Common.{rules}
use Rattle.mm_grammar.specs.Grammar.{switch}
use Rattle.mm_parse_bodies.proofs.ends.switch.Goals as goal

pub returns : goal.returns
unfolding switch
returns c = let step = c.in_ok-operand-2.ensures _ c.cases.ensures in search rules

pub returns-in_err-operand-2 : goal.returns-in_err-operand-2
unfolding switch
returns-in_err-operand-2 c = let step = c.in_err-operand-2.ensures _ c.cases.ensures in search rules
