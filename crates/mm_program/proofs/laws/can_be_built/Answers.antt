use Rattle.mm_program.proofs.ExampleLemmas.{example_is}
use Rattle.mm_program.proofs.laws.can_be_built.Goals as goal

pub returns : goal.returns
returns c = example_is
