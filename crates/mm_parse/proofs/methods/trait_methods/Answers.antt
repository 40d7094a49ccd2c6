use Rattle.std.proofs.Common.{rules}
use Rattle.mm_grammar.specs.ItemGrammar.{trait_methods}
use Rattle.mm_parse.proofs.methods.trait_methods.Goals as goal

pub returns : goal.returns
unfolding trait_methods
returns c = let step = c.ended.ensures _ c.methods.ensures in search rules
