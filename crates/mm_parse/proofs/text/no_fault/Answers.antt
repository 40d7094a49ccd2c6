use Rattle.mm_grammar.proofs.Outcomes.{text_or_fault}
use Rattle.mm_parse.proofs.text.no_fault.Goals as goal

pub returns : goal.returns
returns c = λ tokens rest tree fault. text_or_fault tokens rest tree fault
