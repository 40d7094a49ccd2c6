use Rattle.mm_lex.proofs.TextLaws.{AreTokensOf-one}
use Rattle.mm_lex.proofs.laws.one_reading.Goals as goal

pub returns : goal.returns
returns c = AreTokensOf-one
