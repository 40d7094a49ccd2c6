use Rattle.std.proofs.Common.{◌∙◌, sym}
use Rattle.mm_objects.proofs.TextLaws.{one_text}
use Rattle.mm_objects.proofs.laws.one_objects.Goals as goal

pub returns : goal.returns
returns c bytes a b x y = one_text a b x.are y.are (sym x.is ∙ y.is)
