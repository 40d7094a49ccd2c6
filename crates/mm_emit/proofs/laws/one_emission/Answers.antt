use Rattle.mm_emit.proofs.OneEmission.{emission_one}
use Rattle.mm_emit.proofs.laws.one_emission.Goals as goal

pub returns : goal.returns
returns c p items others one other own moved a b = emission_one p items others own moved one other a b
