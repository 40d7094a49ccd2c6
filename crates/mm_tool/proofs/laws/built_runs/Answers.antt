use Rattle.mm_tool.proofs.BuiltRuns.{built_runs}
use Rattle.mm_tool.proofs.laws.built_runs.Goals as goal

pub returns : goal.returns
returns c p items bytes steps status output built answer = built_runs p items bytes built steps status output answer
