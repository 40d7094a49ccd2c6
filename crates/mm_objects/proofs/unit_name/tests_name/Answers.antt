use Rattle.mm_names.proofs.RunLemmas.{is_name-same}
use Rattle.mm_objects.proofs.unit_name.tests_name.Goals as goal

pub returns : goal.returns
returns c = is_name-same c.args.word.now c.is_name.result c.is_name.ensures
