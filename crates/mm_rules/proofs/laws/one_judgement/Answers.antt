use Rattle.mm_rules.specs.TreeFaults.{faults_of}
use Rattle.mm_rules.proofs.FaultLemmas.{no_first, one_first}
use Rattle.mm_rules.proofs.laws.one_judgement.Goals as goal

pub returns-clause-kept : goal.returns-clause-kept
returns-clause-kept c = λ tree fault kept is. no_first (faults_of tree.crates) fault kept is

pub returns-clause-one : goal.returns-clause-one
returns-clause-one c = λ tree fault other is is_as_well. one_first (faults_of tree.crates) fault other is is_as_well
