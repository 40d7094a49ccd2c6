use Rattle.std.proofs.Common.{rules}
use Rattle.mm_grammar.specs.ItemGrammar.{some_bounds}
use Rattle.mm_parse_heads.proofs.signatures.some_bounds.Goals as goal

pub returns : goal.returns
unfolding some_bounds
returns c = let step = c.listed.ensures _ c.more_bounds.ensures in search rules
