use Rattle.mm_names.proofs.RunLemmas.{is_name-same}
use Rattle.mm_symbols.proofs.pieces.tests_name.Goals as goal

pub returns : goal.returns
returns c = is_name-same c.args.bytes.now c.is_name.result c.is_name.ensures
