use Rattle.mm_terms.proofs.ClosureLemmas.{more_is_longer}
use Rattle.mm_terms.proofs.closure_laws.more_is_longer.Goals as goal

pub returns : goal.returns
returns c = more_is_longer
