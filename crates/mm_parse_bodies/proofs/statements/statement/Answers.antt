use Rattle.std.proofs.Common.{rules}
use Rattle.mm_grammar.specs.Grammar.{statement}
use Rattle.mm_parse_bodies.proofs.statements.statement.Goals as goal

pub returns : goal.returns
unfolding statement
returns c = let step = c.ended.ensures _ c.unended.ensures in search rules
