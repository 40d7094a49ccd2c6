use Rattle.mm_lex.proofs.TextLaws.{AreTokensOf-no_fault}
use Rattle.mm_lex.proofs.laws.tokens_or_fault.Goals as goal

pub returns : goal.returns
returns c = AreTokensOf-no_fault
