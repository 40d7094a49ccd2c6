use Rattle.mm_load.proofs.AllBodies.{all_bodies}
use Rattle.mm_load.proofs.Validity.{program_is_valid}
use Rattle.mm_load.proofs.laws.meant_programs.Goals as goal

pub returns-clause-valid : goal.returns-clause-valid
returns-clause-valid c = λ tree written kept counted. program_is_valid tree written kept counted

pub returns-clause-bodies : goal.returns-clause-bodies
returns-clause-bodies c = λ tree written kept. all_bodies tree written kept
