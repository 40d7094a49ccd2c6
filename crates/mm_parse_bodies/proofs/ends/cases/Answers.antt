use Rattle.std.proofs.Common.{rules}
use Rattle.mm_grammar.specs.Grammar.{cases}
use Rattle.mm_parse_bodies.proofs.ends.cases.Goals as goal

pub returns : goal.returns
unfolding cases
returns c = let step = c.both.ensures _ c.otherwise.ensures in search rules
