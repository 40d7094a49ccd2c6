use Rattle.std.proofs.Common.{rules}
use Rattle.mm_grammar.specs.ItemGrammar.{bounded_drop}
use Rattle.mm_parse.proofs.impls.bounded_drop.Goals as goal

pub returns : goal.returns
unfolding bounded_drop
returns c = let step = c.both.ensures _ c.drop_braces.ensures in search rules
