use Rattle.std.proofs.Common.{rules}
use Rattle.mm_grammar.specs.Grammar.{dyn_target}
use Rattle.mm_parse_bodies.proofs.rvalues.dyn_target.Goals as goal

pub returns : goal.returns
unfolding dyn_target
returns c = let step = c.both.ensures _ c.next_dyn_trait.ensures in search rules
