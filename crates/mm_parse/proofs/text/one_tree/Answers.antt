use Rattle.mm_grammar.proofs.Outcomes.{one_tree}
use Rattle.mm_parse.proofs.text.one_tree.Goals as goal

pub returns : goal.returns
returns c = one_tree
