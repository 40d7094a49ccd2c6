use Rattle.std.proofs.Common.{rules}
use Rattle.mm_grammar.specs.ItemGrammar.{captures}
use Rattle.mm_parse.proofs.functions.captures.Goals as goal

pub returns : goal.returns
unfolding captures
returns c = let step = c.ended.ensures _ c.some_types.ensures in search rules
