use Rattle.mm_tool.proofs.NamedPrograms.{means_well_formed, means_krate, means_names, members_in}
use Rattle.mm_tool.proofs.laws.means_names.Goals as goal

pub returns-clause-well_formed : goal.returns-clause-well_formed
returns-clause-well_formed c = means_well_formed

pub returns-clause-names : goal.returns-clause-names
returns-clause-names c = means_names

pub returns-clause-members : goal.returns-clause-members
returns-clause-members c = members_in

pub returns-clause-krate : goal.returns-clause-krate
returns-clause-krate c = means_krate
