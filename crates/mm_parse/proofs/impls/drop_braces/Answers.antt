use Rattle.std.proofs.Common.{rules}
use Rattle.mm_grammar.specs.ItemGrammar.{drop_braces}
use Rattle.mm_parse.proofs.impls.drop_braces.Goals as goal

pub returns : goal.returns
unfolding drop_braces
returns c = let step = c.ended.ensures _ c.drop_method.ensures in search rules
