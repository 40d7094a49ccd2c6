use Rattle.mm_link.proofs.OneVerdict.{one_result}
use Rattle.mm_link.proofs.laws.one_link_verdict.Goals as goal

pub returns : goal.returns
returns c = one_result
