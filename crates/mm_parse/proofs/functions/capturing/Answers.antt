use Rattle.std.proofs.Common.{rules}
use Rattle.mm_grammar.specs.ItemGrammar.{capturing}
use Rattle.mm_parse.proofs.functions.capturing.Goals as goal

pub returns : goal.returns
unfolding capturing
returns c = let step = c.both.ensures _ c.signature.ensures in search rules
