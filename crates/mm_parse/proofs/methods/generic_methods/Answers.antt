use Rattle.std.proofs.Common.{rules}
use Rattle.mm_grammar.specs.ItemGrammar.{generic_methods}
use Rattle.mm_parse.proofs.methods.generic_methods.Goals as goal

pub returns : goal.returns
unfolding generic_methods
returns c = let step = c.both.ensures _ c.trait_methods.ensures in search rules
