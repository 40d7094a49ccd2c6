use Rattle.mm_lex.proofs.TextLaws.{lexemes-pieces, lexemes-IsLexeme}
use Rattle.mm_lex.proofs.laws.tokens_spell.Goals as goal

pub returns-clause-are : goal.returns-clause-are
returns-clause-are c = lexemes-pieces

pub returns-clause-each : goal.returns-clause-each
returns-clause-each c = lexemes-IsLexeme
