use Rattle.std.proofs.Common.{rules}
use Rattle.mm_grammar.specs.ItemGrammar.{variants}
use Rattle.mm_parse.proofs.definitions.variants.Goals as goal

pub returns : goal.returns
unfolding variants
returns c = let step = c.ended.ensures _ c.some_variants.ensures in search rules
