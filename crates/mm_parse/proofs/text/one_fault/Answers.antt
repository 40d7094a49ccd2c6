use Rattle.mm_grammar.proofs.Outcomes.{one_first}
use Rattle.mm_parse.proofs.text.one_fault.Goals as goal

pub returns : goal.returns
returns c = λ tokens rest others fault other. one_first tokens rest others fault other
