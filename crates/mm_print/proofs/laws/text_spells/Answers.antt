use Rattle.mm_print.proofs.Back.{text_spells}
use Rattle.mm_print.proofs.laws.text_spells.Goals as goal

pub returns : goal.returns
returns c = text_spells
