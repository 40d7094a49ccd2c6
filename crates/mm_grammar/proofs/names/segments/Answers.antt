use Rattle.std.proofs.Common.{rules}
use Rattle.mm_grammar.specs.Grammar.{segments}
use Rattle.mm_grammar.proofs.names.segments.Goals as goal

pub returns : goal.returns
unfolding segments
returns c = let step = c.listed.ensures _ c.more_segments.ensures in search rules
