use Rattle.mm_print.proofs.Canonicals.{one_canonical}
use Rattle.mm_print.proofs.laws.one_canonical.Goals as goal

pub returns : goal.returns
returns c = one_canonical
