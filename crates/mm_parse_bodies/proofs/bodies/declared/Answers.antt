use Rattle.std.proofs.Common.{rules}
use Rattle.mm_grammar.specs.Grammar.{declared}
use Rattle.mm_parse_bodies.proofs.bodies.declared.Goals as goal

pub returns : goal.returns
unfolding declared
returns c = let step = c.ended.ensures _ c.ty.ensures in search rules
