use Rattle.std.proofs.Common.{◌≡◌, ◌++◌, Ok, map, drop}
use Rattle.mm_objects.specs.declared.target.Target.{Target}
use Rattle.mm_objects.specs.declared.target.VtableId.{VtableId}
use Rattle.mm_machines.specs.Answers.{allocations_of}
use Rattle.mm_machines.specs.Forms.{all_of}
use Rattle.mm_machines.specs.Image.{image_operand}
use Rattle.mm_machines.specs.Values.{then_do}
use Rattle.mm_objrun.proofs.operands.operands.Given as goal

-- the values so far, and those of the operands that are left, are those of all
abbrev pub invariant-loop-o : goal.invariant-loop-o
invariant-loop-o l =
    then_do (all_of Target VtableId (map (image_operand l.frame.function) (drop l.o-index l.os)) l.frame.locals (allocations_of Target VtableId l.memory)) (λ vs. Ok (l.made.items ++ vs.0, vs.1))
    ≡ all_of Target VtableId (map (image_operand l.frame.function) l.os) l.frame.locals (allocations_of Target VtableId l.fn.memory)
