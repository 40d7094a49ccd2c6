use Rattle.mm_lex.proofs.TextLaws.{IsLexicalFault-one}
use Rattle.mm_lex.proofs.laws.one_lexical_fault.Goals as goal

pub returns : goal.returns
returns c = IsLexicalFault-one
