use Rattle.std.proofs.Common.{rules}
use Rattle.mm_grammar.specs.Grammar.{new_head}
use Rattle.mm_grammar.proofs.constructed.new_head.Goals as goal

pub returns : goal.returns
unfolding new_head
returns c = let step = c.both.ensures _ c.variant_name.ensures in search rules
