use Rattle.mm_collect.proofs.InstanceLemmas.{roots_are, candidates_are, members_are}
use Rattle.mm_collect.proofs.laws.members_are_instances.Goals as goal

pub returns-clause-roots : goal.returns-clause-roots
returns-clause-roots c = roots_are

pub returns-clause-used : goal.returns-clause-used
returns-clause-used c = candidates_are

pub returns-clause-members : goal.returns-clause-members
returns-clause-members c = members_are
