use Rattle.std.proofs.Common.{rules}
use Rattle.mm_grammar.specs.Grammar.{arguments}
use Rattle.mm_parse_bodies.proofs.ends.arguments.Goals as goal

pub returns : goal.returns
unfolding arguments
returns c = let step = c.both.ensures _ c.target.ensures in search rules
