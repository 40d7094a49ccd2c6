use Rattle.std.proofs.Common.{rules}
use Rattle.mm_parse_bodies.proofs.rvalues.operand_pair.Goals as goal

pub returns : goal.returns
returns c = let step = c.ended.ensures _ c.two_operands.ensures in search rules
