use Rattle.std.proofs.Common.{rules}
use Rattle.mm_grammar.specs.ItemGrammar.{bounded_methods}
use Rattle.mm_parse.proofs.impls.bounded_methods.Goals as goal

pub returns : goal.returns
unfolding bounded_methods
returns c = let step = c.both.ensures _ c.impl_braces.ensures in search rules
