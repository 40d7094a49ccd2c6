use Rattle.std.proofs.Common.{◌∙◌, ◌+◌, ◌-◌, ap, sym, replicate}
use Rattle.mm_machines.specs.Answers.{allocations_of}
use Rattle.mm_machines.specs.Memory.{with_locals}
use Rattle.mm_machines.specs.Values.{uninit}
use denote.Hole.Carrier.{roll}
use Rattle.mm_machines.specs.declared.value.Value.TheViews.{roll-Value}
use Rattle.mm_machines.proofs.Locals.{one_unset}
use Rattle.mm_machines.proofs.memory.Memory.make_unset.Goals as goal

-- one more is made, and one less is left
pub loop-i-preserved : goal.loop-i-preserved
unfolding roll-Value roll
loop-i-preserved g c =
    let F = g.row.F.Denot in
    let V = g.row.V.Denot in
    ap (with_locals F V (replicate (c.args.count - (c.loop-i.i + 1)) (uninit F V))) c.in_ok-make.ensures.made
    ∙ sym (one_unset F V c.args.count c.loop-i.i (allocations_of F V c.loop-i.self) c.loop-i-test.true)
    ∙ c.loop-i.invariant
