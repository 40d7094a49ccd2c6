use Rattle.std.proofs.Common.{refl}
use Rattle.mm_symbols.proofs.ItemLaws.{form_within}
use Rattle.mm_symbols.proofs.laws.is_symbol.Goals as goal

pub returns : goal.returns
returns c = λ p x names is deep. record { formed = form_within p names 4096 x is deep; is = refl }
