use Rattle.mm_symbols.proofs.ItemLaws.{item_reported}
use Rattle.mm_symbols.proofs.laws.one_item.Goals as goal

pub returns : goal.returns
returns c = λ p x y names is also same. item_reported p names x y is also same
