use Rattle.std.proofs.Common.{◌∙◌, ap, Err}
use Rattle.std.proofs.lemmas.Result.{err_from_is_err_and}
use Rattle.mm_objects.specs.LineReading.{arm_in}
use Rattle.mm_objects.proofs.PieceLemmas.{all_in-step, all_in-stop, all_in-end, stopped}
use Rattle.mm_objects.proofs.lines.arms.Goals as goal

pub returns-in_err-arm : goal.returns-in_err-arm
returns-in_err-arm c =
    let p = err_from_is_err_and c.from_residual.result c.from_residual.ensures.1 in
    stopped c.from_residual.result c.in_err-arm.field-0.0 _ _ (p.1 ∙ ap Err p.2) c.in_err-arm.ensures (all_in-stop (arm_in c.args.blocks) c.args.words.now c.loop-word.word-index _ c.loop-word.arms _ c.loop-word.invariant c.loop-word-test.true)

pub loop-word-preserved : goal.loop-word-preserved
loop-word-preserved c = all_in-step (arm_in c.args.blocks) c.args.words.now c.loop-word.word-index _ c.in_ok-arm.field-0 c.loop-word.arms _ _ c.loop-word.invariant c.loop-word-test.true c.in_ok-arm.ensures c.in_ok-push.ensures.ok

pub returns : goal.returns
returns c = all_in-end (arm_in c.args.blocks) c.args.words.now c.loop-word.word-index c.loop-word.arms _ c.loop-word.invariant c.loop-word-test.false
