use Rattle.mm_print.proofs.Back.{reads_back}
use Rattle.mm_print.proofs.laws.reads_back.Goals as goal

pub returns : goal.returns
returns c = reads_back
