use Rattle.std.proofs.Common.{rules}
use Rattle.mm_grammar.specs.ItemGrammar.{generic_capturing}
use Rattle.mm_parse.proofs.functions.generic_capturing.Goals as goal

pub returns : goal.returns
unfolding generic_capturing
returns c = let step = c.both.ensures _ c.capturing.ensures in search rules
