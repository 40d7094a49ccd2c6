use Rattle.mm_terms.specs.Substitution.{subst-no_param}
use Rattle.mm_subst.proofs.laws.unchanged.Goals as goal

pub returns : goal.returns
returns c = subst-no_param
