use Rattle.std.proofs.Common.{rules}
use Rattle.mm_grammar.specs.ItemGrammar.{value_term}
use Rattle.mm_parse.proofs.definitions.value_term.Goals as goal

pub returns : goal.returns
unfolding value_term
returns c = let step = c.ended.ensures _ c.term.ensures in search rules
