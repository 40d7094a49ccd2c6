use Rattle.mm_load_plain.proofs.WellFormedLemmas.{means_well}
use Rattle.mm_load_plain.proofs.laws.means_well_formed.Goals as goal

pub returns : goal.returns
returns c = means_well
