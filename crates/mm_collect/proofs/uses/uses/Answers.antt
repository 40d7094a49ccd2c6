use Rattle.std.proofs.Common.{rules, ◌++◌, ap, sym, subst, ◌∙◌}
use Rattle.mm_plain.specs.Uses.{end_calls, called}
use Rattle.mm_plain.specs.Notes.{IsLeast}
use Rattle.mm_collect.specs.Candidates.{Judges}
use Rattle.mm_collect.specs.declared.uses.Candidate.TheVariants as candidate
use Rattle.mm_collect.proofs.RootLemmas.{no_calls}
use Rattle.mm_collect.proofs.UseLemmas.{scanned_none, scanned_within, scanned_over, all_uses, all_notes}
use Rattle.mm_collect.proofs.uses.uses.Goals as goal
use Rattle.mm_collect.proofs.uses.uses.Goals.{in-Call+in_ok-item+in-Within+in_ok-push-in-Within, in-Call+in_ok-item+in-Over, in_default-end}

pub loop-block-preserved : goal.loop-block-preserved
loop-block-preserved c =
    let p = c.args.p.now in
    let blocks = c.as_slice-block-items.result.now in
    elim c.match-block.branch [
      | in-Call+in_ok-item+in-Within+in_ok-push-in-Within w ↦
          let judged : Judges p c.args.limit (called c.in-Fn.args w.in-Call.call) (candidate.Within w.in-Within.item) =
          subst (Judges p c.args.limit (called c.in-Fn.args w.in-Call.call)) w.in-Within.is (subst (λ args. Judges p c.args.limit (called args w.in-Call.call) w.in_ok-item.field-0) w.as_slice.ensures w.in_ok-item.ensures) in
          scanned_within p c.args.limit c.in-Fn.args blocks c.loop-block.block-index c.loop-block.used.items c.match-block.used.items c.loop-block.over c.match-block.over c.loop-block.invariant c.block-item.result c.loop-block-test.true c.block-item.is w.in-Call.call (ap end_calls w.in-Call.is) w.in-Within.item judged (ap (λ v. v.items) w.used-is ∙ w.in_ok-push-in-Within.ensures.items) w.over-is
      | in-Call+in_ok-item+in-Over w ↦
          let judged : Judges p c.args.limit (called c.in-Fn.args w.in-Call.call) (candidate.Over w.in-Over.note) =
          subst (Judges p c.args.limit (called c.in-Fn.args w.in-Call.call)) w.in-Over.is (subst (λ args. Judges p c.args.limit (called args w.in-Call.call) w.in_ok-item.field-0) w.as_slice.ensures w.in_ok-item.ensures) in
          scanned_over p c.args.limit c.in-Fn.args blocks c.loop-block.block-index c.loop-block.used.items c.match-block.used.items c.loop-block.over c.match-block.over c.loop-block.invariant c.block-item.result c.loop-block-test.true c.block-item.is w.in-Call.call (ap end_calls w.in-Call.is) w.in-Over.note judged (ap (λ v. v.items) w.used-is)
          (λ notes others first second. subst (IsLeast (notes ++ others)) (sym w.over-is) (w.least_over-over.ensures notes others first second))
      | in_default-end w ↦ scanned_none p c.args.limit c.in-Fn.args blocks c.loop-block.block-index c.loop-block.used.items c.match-block.used.items c.loop-block.over c.match-block.over c.loop-block.invariant c.block-item.result c.loop-block-test.true c.block-item.is (no_calls c.block-item.result.end w.in_default-end.not-Call) (ap (λ v. v.items) w.used-is) w.over-is
    ]

pub returns-clause-used : goal.returns-clause-used
returns-clause-used c =
    c.loop-block.invariant.0 ∙ all_uses c.args.p.now c.args.limit c.args.item.now c.in-Fn.def c.in-Fn.args c.in-Some.function.now c.as_slice-block-items.result.now c.loop-block.block-index c.in-Fn.is (search rules) c.as_slice-block-items.ensures (search rules)

pub returns-clause-over : goal.returns-clause-over
returns-clause-over c =
    subst (λ notes. IsLeast notes c.loop-block.over)
    (all_notes c.args.p.now c.args.limit c.args.item.now c.in-Fn.def c.in-Fn.args c.in-Some.function.now c.as_slice-block-items.result.now c.loop-block.block-index c.in-Fn.is (search rules) c.as_slice-block-items.ensures (search rules))
    c.loop-block.invariant.1
