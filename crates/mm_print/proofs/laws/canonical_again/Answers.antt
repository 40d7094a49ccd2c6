use Rattle.mm_print.proofs.Written.{canonical_again}
use Rattle.mm_print.proofs.laws.canonical_again.Goals as goal

pub returns : goal.returns
returns c = canonical_again
