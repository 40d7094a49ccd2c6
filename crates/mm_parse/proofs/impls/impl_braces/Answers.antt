use Rattle.std.proofs.Common.{rules}
use Rattle.mm_grammar.specs.ItemGrammar.{impl_braces}
use Rattle.mm_parse.proofs.impls.impl_braces.Goals as goal

pub returns : goal.returns
unfolding impl_braces
returns c = let step = c.ended.ensures _ c.impl_methods.ensures in search rules
