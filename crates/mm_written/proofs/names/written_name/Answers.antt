use Rattle.mm_names.proofs.RunLemmas.{is_name-same}
use Rattle.mm_names.specs.Runs.{is_name}
use Rattle.std.proofs.Common.{◌∙◌, ap}
use Rattle.mm_written.specs.Names.{written_name}
use Rattle.mm_written.proofs.names.written_name.Goals as goal

pub returns : goal.returns
unfolding written_name
returns c = is_name-same c.as_slice.result.now c.is_name.result c.is_name.ensures ∙ ap is_name c.as_slice.ensures
