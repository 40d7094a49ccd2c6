use Rattle.std.proofs.Common.{rules}
use Rattle.mm_grammar.specs.ItemGrammar.{fn_name}
use Rattle.mm_parse.proofs.functions.fn_name.Goals as goal

pub returns : goal.returns
unfolding fn_name
returns c = let step = c.both.ensures _ c.generic.ensures in search rules
