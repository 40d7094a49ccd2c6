use Rattle.mm_print.proofs.Joining.{text_reads_as}
use Rattle.mm_print.proofs.laws.text_reads_as.Goals as goal

pub returns : goal.returns
returns c = text_reads_as
