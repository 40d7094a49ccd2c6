use Rattle.mm_tool.proofs.Meanings.{meaning_one}
use Rattle.mm_tool.proofs.answer.one_meaning.Goals as goal

pub returns : goal.returns
returns c text p q m n = meaning_one text p q m n
