use Rattle.std.proofs.Common.{◌∙◌}
use Rattle.mm_lex.proofs.Scanning.{whole_front}
use Rattle.mm_lex.proofs.scan.valid_front.Goals as goal

pub returns-in-Ok-clause-value : goal.returns-in-Ok-clause-value
returns-in-Ok-clause-value c = c.in-Ok.ensures.cases.0 ∙ whole_front c.args.bytes.now c.in-Ok.ensures.cases.1
