use Rattle.mm_emit.proofs.HaveText.{have_text}
use Rattle.mm_emit.proofs.laws.have_text.Goals as goal

pub returns : goal.returns
returns c p items objects is are fit = have_text p items is objects are fit
