use Rattle.std.proofs.Common.{rules}
use Rattle.mm_grammar.specs.ItemGrammar.{param_types}
use Rattle.mm_parse_heads.proofs.signatures.param_types.Goals as goal

pub returns : goal.returns
unfolding param_types
returns c = let step = c.ended.ensures _ c.some_params.ensures in search rules
