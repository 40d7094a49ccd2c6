use Rattle.mm_print.proofs.Written.{reads_as}
use Rattle.mm_print.proofs.laws.reads_as.Goals as goal

pub returns : goal.returns
returns c = reads_as
