use Rattle.std.proofs.Common.{rules}
use Rattle.mm_grammar.specs.ItemGrammar.{drop_param}
use Rattle.mm_parse.proofs.impls.drop_param.Goals as goal

pub returns : goal.returns
unfolding drop_param
returns c = let step = c.ended.ensures _ c.ty.ensures in search rules
