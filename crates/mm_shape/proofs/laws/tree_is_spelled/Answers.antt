use Rattle.mm_shape.proofs.Forgetting.{tree_forgets}
use Rattle.mm_shape.proofs.laws.tree_is_spelled.Goals as goal

pub returns : goal.returns
returns c = tree_forgets
