use Rattle.mm_terms.specs.Substitution.{subst-leaves_none}
use Rattle.mm_subst.proofs.laws.none_left.Goals as goal

pub returns : goal.returns
returns c = subst-leaves_none
