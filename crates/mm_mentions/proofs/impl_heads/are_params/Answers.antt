use Rattle.std.proofs.Common.{arith}
use Rattle.mm_mentions.specs.Seen.{names_of}
use Rattle.mm_mentions.proofs.HeadLemmas.{params_among}
use Rattle.mm_mentions.proofs.impl_heads.are_params.Goals as goal

pub returns : goal.returns
returns c = params_among _ (names_of c.in_ok-names.names) _ _ (omega arith) c.in_ok-names.ensures c.are_among.ensures
