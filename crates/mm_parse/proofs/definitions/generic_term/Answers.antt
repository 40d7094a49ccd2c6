use Rattle.std.proofs.Common.{rules}
use Rattle.mm_grammar.specs.ItemGrammar.{generic_term}
use Rattle.mm_parse.proofs.definitions.generic_term.Goals as goal

pub returns : goal.returns
unfolding generic_term
returns c = let step = c.both.ensures _ c.typed_term.ensures in search rules
