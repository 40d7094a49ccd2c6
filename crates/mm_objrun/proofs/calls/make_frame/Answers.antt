use Rattle.std.proofs.Common.{◌∙◌, ap, sym, replicate}
use denote.Hole.Carrier.{roll}
use Rattle.mm_machines.specs.Answers.{allocations_of}
use Rattle.mm_machines.specs.Memory.{with_locals}
use Rattle.mm_machines.specs.Values.{uninit}
use Rattle.mm_objects.specs.declared.target.Target.{Target}
use Rattle.mm_objects.specs.declared.target.VtableId.{VtableId}
use Rattle.mm_machines.specs.declared.value.Value.TheViews.{roll-Value}
use Rattle.mm_objrun.proofs.SetUp.{set_up_law}
use Rattle.mm_objrun.proofs.calls.make_frame.Goals as goal

-- the result is made, then the arguments, and then the others
pub returns-clause-made : goal.returns-clause-made
unfolding roll-Value roll
returns-clause-made c =
    c.in_ok-make_unset.ensures
    ∙ ap (with_locals Target VtableId (replicate c.args.more (uninit Target VtableId)))
    (c.in_ok-make_locals.ensures ∙ ap (with_locals Target VtableId c.args.values.items) c.in_ok-first.ensures.made)
    ∙ sym (set_up_law c.args.values.items c.args.more (allocations_of Target VtableId c.args.memory.now))
