use Rattle.std.proofs.Common.{rules}
use Rattle.mm_grammar.specs.Grammar.{otherwise}
use Rattle.mm_parse_bodies.proofs.ends.otherwise.Goals as goal

pub returns : goal.returns
unfolding otherwise
returns c = let step = c.ended.ensures _ c.label.ensures in search rules
