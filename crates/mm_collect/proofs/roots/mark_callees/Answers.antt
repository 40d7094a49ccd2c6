use Rattle.std.proofs.Common.{rules, ap}
use Rattle.mm_plain.specs.Uses.{end_calls}
use Rattle.mm_collect.proofs.RootLemmas.{no_calls, kept_none, kept_one, kept_past, kept_all}
use Rattle.mm_collect.proofs.roots.mark_callees.Goals as goal
use Rattle.mm_collect.proofs.roots.mark_callees.Goals.{in-Call+in-Some, in-Call+in_default-get_mut, in_default}

pub loop-block-preserved : goal.loop-block-preserved
loop-block-preserved c =
    let old = c.args.marks.now.items in
    let marks = c.loop-block.marks.items in
    let new = c.match-block.marks.items in
    let blocks = c.as_slice-block-items.result.now in
    elim c.match-block.branch [
      | in-Call+in-Some w ↦ kept_one old marks new blocks c.loop-block.block-index c.block-item.result c.loop-block-test.true c.block-item.is c.loop-block.invariant w.in-Call.call (ap end_calls w.in-Call.is) (search rules) (ap (λ v. v.items) w.marks-is)
      | in-Call+in_default-get_mut w ↦ kept_past old marks new blocks c.loop-block.block-index c.block-item.result c.loop-block-test.true c.block-item.is c.loop-block.invariant w.in-Call.call (ap end_calls w.in-Call.is) (search rules) (ap (λ v. v.items) w.marks-is)
      | in_default w ↦ kept_none old marks new blocks c.loop-block.block-index c.block-item.result c.loop-block-test.true c.block-item.is c.loop-block.invariant (no_calls c.block-item.result.end w.in_default.not-Call) (ap (λ v. v.items) w.marks-is)
    ]

pub returns-clause-marked : goal.returns-clause-marked
returns-clause-marked c = kept_all c.args.marks.now.items c.loop-block.marks.items c.args.function.now c.as_slice-block-items.result.now c.loop-block.block-index c.as_slice-block-items.ensures (search rules) c.loop-block.invariant
