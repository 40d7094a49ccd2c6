use Rattle.mm_link.proofs.Verdicts.{is_missing}
use Rattle.mm_link.proofs.verdict.link_indexed.Goals as goal

pub returns-in-Err-check_references : goal.returns-in-Err-check_references
returns-in-Err-check_references c =
    is_missing c.args.index c.in-Err-check_references.fault c.in-Ok.ensures c.in-Err-check_references.ensures
