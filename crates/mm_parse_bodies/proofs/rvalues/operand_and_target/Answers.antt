use Rattle.std.proofs.Common.{rules}
use Rattle.mm_parse_bodies.proofs.rvalues.operand_and_target.Goals as goal

pub returns : goal.returns
returns c = let step = c.ended.ensures _ (c.both-parts.ensures _ c.next_dyn_target.ensures) in search rules
