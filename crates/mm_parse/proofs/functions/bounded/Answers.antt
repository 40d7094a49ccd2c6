use Rattle.std.proofs.Common.{rules}
use Rattle.mm_grammar.specs.ItemGrammar.{bounded}
use Rattle.mm_parse.proofs.functions.bounded.Goals as goal

pub returns : goal.returns
unfolding bounded
returns c = let step = c.both.ensures _ c.bounds.ensures in search rules
