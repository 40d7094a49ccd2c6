use Rattle.std.proofs.Common.{ℕ, List, subst}
use Rattle.mm_tool.specs.Report.{Answers}
use Rattle.mm_tool.proofs.Reports.{all_read}
use Rattle.mm_tool.proofs.tool.answer_of.Goals as goal

pub returns-in-Ok-answer-clause-ok : goal.returns-in-Ok-answer-clause-ok
returns-in-Ok-answer-clause-ok g c =
    let answer = c.in-Ok-answer.answer in
    let Answered : List ℕ → Type 0 = λ text. Answers c.args.command text answer.status answer.output.items in
    all_read Answered c.limit_of.result (g.S.Source.left c.args.source.now) (g.S.Source.left c.read_all.new.source) c.in-Ok.text.items c.in-Ok.ensures.ok (subst Answered c.deref.ensures.value c.in-Ok-answer.ensures.answers)
