use Rattle.std.proofs.Common.{rules, ◌≡◌, ◌∙◌, ◌+◌, sym, ap, subst, arith, length, drop, Err}
use Rattle.std.proofs.lemmas.Result.{err_from_is_err_and}
use Rattle.mm_objects.specs.declared.progress.Progress.TheVariants as at
use Rattle.mm_objects.specs.Given.{GivesAt}
use Rattle.mm_objects.specs.TextReading.{follow}
use Rattle.mm_objects.proofs.PieceLemmas.{seen, seen-length}
use Rattle.mm_objects.proofs.FollowLemmas.{follow-step, follow-stop, follow-end, stopped_at, text-stop, text-end}
use Rattle.mm_objects.proofs.reading.read_lines.Goals as goal

pub returns-in_err-progress : goal.returns-in_err-progress
returns-in_err-progress c =
    let p = err_from_is_err_and c.from_residual.result c.from_residual.ensures.1 in
    stopped_at c.from_residual.result c.in_err-progress.field-0.0 _ _ (p.1 ∙ ap Err p.2) (c.in_err-progress.ensures _ c.after.ensures)
    (λ n fails. text-stop c.args.several (seen c.args.lines.now) c.args.last.now n (follow-stop c.args.several _ c.loop-line.number n c.loop-line.progress c.args.lines.now c.loop-line.line-index _ c.loop-line-test.true c.loop-line.invariant.follows fails))

pub loop-line-preserved : goal.loop-line-preserved
loop-line-preserved c =
    let next : c.in_ok-number.number ≡ c.loop-line.number + 1 = search rules in
    record {
      follows = subst (λ n. follow c.args.several 1 at.Start (seen c.args.lines.now) ≡ follow c.args.several n c.in_ok-progress.progress (seen (drop (c.loop-line.line-index + 1) c.args.lines.now))) (sym next)
          (follow-step c.args.several _ c.loop-line.number c.loop-line.progress c.in_ok-progress.progress c.args.lines.now c.loop-line.line-index _ c.loop-line-test.true c.loop-line.invariant.follows (c.in_ok-progress.ensures _ c.after.ensures));
      counts = omega (arith, next, c.loop-line.invariant.counts);
    }

pub returns : goal.returns
returns c =
    let past = c.loop-line-test.false in
    let whole = follow-end c.args.several _ c.loop-line.number c.loop-line.progress c.args.lines.now c.loop-line.line-index past c.loop-line.invariant.follows in
    let count : c.loop-line.number ≡ length (seen c.args.lines.now) + 1 = omega (arith, c.loop-line.invariant.counts, seen-length c.args.lines.now, c.loop-line.auto.line-index-end) in
    subst (GivesAt c.numbered-2.result) (sym (text-end c.args.several (seen c.args.lines.now) c.args.last.now c.loop-line.progress c.loop-line.number whole count)) (c.numbered-2.ensures _ c.finish.ensures)
