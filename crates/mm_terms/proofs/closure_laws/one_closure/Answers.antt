use Rattle.mm_terms.proofs.ClosureLemmas.{one_closure}
use Rattle.mm_terms.proofs.closure_laws.one_closure.Goals as goal

pub returns : goal.returns
returns c = one_closure
