use Rattle.mm_rules.proofs.KeptLemmas.{kept_mentions, kept_names, kept_main, kept_drops}
use Rattle.mm_rules.proofs.laws.kept_rules.Goals as goal

pub returns-clause-mentions : goal.returns-clause-mentions
returns-clause-mentions c = λ tree kept. kept_mentions tree.crates kept

pub returns-clause-names : goal.returns-clause-names
returns-clause-names c = λ tree kept. kept_names tree.crates kept

pub returns-clause-main : goal.returns-clause-main
returns-clause-main c = λ tree kept. kept_main tree.crates kept

pub returns-clause-drops : goal.returns-clause-drops
returns-clause-drops c = λ tree kept. kept_drops tree.crates kept
