use Rattle.mm_terms.specs.Substitution.{subst-subst}
use Rattle.mm_subst.proofs.laws.composed.Goals as goal

pub returns : goal.returns
returns c = subst-subst
