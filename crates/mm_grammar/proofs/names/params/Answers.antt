use Rattle.std.proofs.Common.{rules}
use Rattle.mm_grammar.specs.Grammar.{params}
use Rattle.mm_grammar.proofs.names.params.Goals as goal

pub returns : goal.returns
unfolding params
returns c = let step = c.ended.ensures _ (c.listed-names.ensures _ c.more_names.ensures) in search rules
