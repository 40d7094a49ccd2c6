use Rattle.std.proofs.Common.{rules}
use Rattle.mm_grammar.specs.ItemGrammar.{impl_target}
use Rattle.mm_parse.proofs.impls.impl_target.Goals as goal

pub returns : goal.returns
unfolding impl_target
returns c = let step = c.both.ensures _ c.bounded_methods.ensures in search rules
