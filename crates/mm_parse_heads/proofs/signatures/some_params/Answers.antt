use Rattle.std.proofs.Common.{rules}
use Rattle.mm_grammar.specs.ItemGrammar.{some_params}
use Rattle.mm_parse_heads.proofs.signatures.some_params.Goals as goal

pub returns : goal.returns
unfolding some_params
returns c = let step = c.listed.ensures _ c.more_params.ensures in search rules
