use Rattle.mm_shape.proofs.Levels.{stands_again}
use Rattle.mm_shape.proofs.laws.spelled_again.Goals as goal

pub returns : goal.returns
returns c = stands_again
