use Rattle.std.proofs.Common.{subst, sym}
use Rattle.mm_plain.specs.Verdict.{IsAccepted}
use Rattle.mm_tool.specs.Report.{Tells, IsVerdict}
use Rattle.mm_tool.proofs.CompleteItems.{items_complete}
use Rattle.mm_tool.proofs.Verdicts.{IfOk-then, reported}
use Rattle.mm_tool.proofs.answer.judge.Goals as goal

pub accept-requires : goal.accept-requires
accept-requires c =
    items_complete c.args.p.now c.args.opts.now c.as_slice.result.now c.requires.meant c.requires.short
    (subst (IsAccepted c.args.p.now c.args.opts.now) (sym c.as_slice.ensures) c.in-Ok.ensures.accepted)

pub returns-in-Err : goal.returns-in-Err
returns-in-Err c = IfOk-then c.refuse.result (λ answer. Tells c.args.p.now c.in-Err.fault answer.status answer.output.items) (λ answer. IsVerdict c.args.product c.args.p.now c.args.opts.now answer.status answer.output.items) c.refuse.ensures
    (λ answer. reported c.args.p.now c.args.opts.now c.collect.result c.args.product c.in-Err.fault c.in-Err.is c.collect.ensures.too_many c.collect.ensures.too_long answer.status answer.output.items)
