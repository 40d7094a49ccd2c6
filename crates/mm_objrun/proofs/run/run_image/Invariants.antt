use Rattle.std.proofs.Common.{◌≡◌, ◌-◌}
use Rattle.mm_objects.specs.declared.target.Target.{Target}
use Rattle.mm_objects.specs.declared.target.VtableId.{VtableId}
use Rattle.mm_machines.specs.Image.{image, observed_image}
use Rattle.mm_machines.specs.Runs.{run}
use Rattle.mm_objrun.specs.Steps.{state_of}
use Rattle.mm_objrun.proofs.run.run_image.Given as goal

-- what will be seen in the steps that are left is what is seen in all
abbrev pub invariant-loop-i : goal.invariant-loop-i
invariant-loop-i l =
    run Target VtableId (image l.image.objects.units) (l.steps - l.i) (state_of l.machine)
    ≡ observed_image l.image.objects.units l.image.main l.steps
