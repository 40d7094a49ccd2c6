use Rattle.std.proofs.Common.{rules}
use Rattle.mm_grammar.specs.ItemGrammar.{some_variants}
use Rattle.mm_parse.proofs.definitions.some_variants.Goals as goal

pub returns : goal.returns
unfolding some_variants
returns c = let step = c.listed.ensures _ c.more_variants.ensures in search rules
