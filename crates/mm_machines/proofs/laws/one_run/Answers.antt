use Rattle.mm_machines.proofs.Simulation.{simulates}
use Rattle.mm_machines.proofs.laws.one_run.Goals as goal

pub returns : goal.returns
returns c = simulates
