use Rattle.mm_emit.proofs.Running.{run_as}
use Rattle.mm_emit.proofs.laws.run_as.Goals as goal

pub returns : goal.returns
returns c p items objects is are = run_as p items is objects are
