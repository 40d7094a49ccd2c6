use Rattle.std.proofs.Common.{rules}
use Rattle.mm_grammar.specs.ItemGrammar.{generic}
use Rattle.mm_parse.proofs.functions.generic.Goals as goal

pub returns : goal.returns
unfolding generic
returns c = let step = c.both.ensures _ c.bounded.ensures in search rules
