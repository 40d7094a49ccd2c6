use Rattle.std.proofs.Common.{rules}
use Rattle.mm_grammar.specs.Grammar.{call_place}
use Rattle.mm_parse_bodies.proofs.ends.call_place.Goals as goal

pub returns : goal.returns
unfolding call_place
returns c = let step = c.ended.ensures _ c.place.ensures in search rules
