use Rattle.std.proofs.Common.{rules}
use Rattle.mm_grammar.specs.ItemGrammar.{drop_fn}
use Rattle.mm_parse.proofs.impls.drop_fn.Goals as goal

pub returns : goal.returns
unfolding drop_fn
returns c = let step = c.both.ensures _ c.body.ensures in search rules
