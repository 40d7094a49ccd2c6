use Rattle.std.proofs.Common.{rules}
use Rattle.mm_grammar.specs.ItemGrammar.{generic_variants}
use Rattle.mm_parse.proofs.definitions.generic_variants.Goals as goal

pub returns : goal.returns
unfolding generic_variants
returns c = let step = c.both.ensures _ c.variants.ensures in search rules
