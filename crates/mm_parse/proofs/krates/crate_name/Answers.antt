use Rattle.std.proofs.Common.{rules}
use Rattle.mm_grammar.specs.ItemGrammar.{crate_name}
use Rattle.mm_parse.proofs.krates.crate_name.Goals as goal

pub returns : goal.returns
unfolding crate_name
returns c = let step = c.ended.ensures _ c.name.ensures in search rules
