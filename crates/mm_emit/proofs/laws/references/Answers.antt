use Rattle.mm_emit.proofs.References.{all_resolve, main_resolves}
use Rattle.mm_emit.proofs.laws.references.Goals as goal

pub returns-clause-all : goal.returns-clause-all
returns-clause-all c = all_resolve

pub returns-clause-main : goal.returns-clause-main
returns-clause-main c = main_resolves
