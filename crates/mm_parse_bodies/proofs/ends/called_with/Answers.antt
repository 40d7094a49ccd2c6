use Rattle.std.proofs.Common.{rules}
use Rattle.mm_grammar.specs.Grammar.{called_with}
use Rattle.mm_parse_bodies.proofs.ends.called_with.Goals as goal

pub returns : goal.returns
unfolding called_with
returns c = let step = c.both.ensures _ c.arguments.ensures in search rules
