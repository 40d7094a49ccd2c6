use Rattle.mm_symbols.proofs.ItemLaws.{form_one}
use Rattle.mm_symbols.proofs.laws.one_form.Goals as goal

pub returns : goal.returns
returns c = form_one
