use Rattle.std.proofs.Common.{rules}
use Rattle.mm_parse_bodies.proofs.operands.one_operand.Goals as goal

pub returns : goal.returns
returns c = let step = c.ended.ensures _ c.operand.ensures in search rules
