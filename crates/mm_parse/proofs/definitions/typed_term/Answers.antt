use Rattle.std.proofs.Common.{rules}
use Rattle.mm_grammar.specs.ItemGrammar.{typed_term}
use Rattle.mm_parse.proofs.definitions.typed_term.Goals as goal

pub returns : goal.returns
unfolding typed_term
returns c = let step = c.both.ensures _ c.value_term.ensures in search rules
