use Rattle.mm_program.specs.Marks.{marked}
use Rattle.std.proofs.Common.{ap, ◌∙◌}
use Rattle.mm_program.specs.Naming.{named_in_type}
use Rattle.mm_program.proofs.MarkLemmas.{mark_each}
use Rattle.mm_program.proofs.marking.types.mark_types.Goals as goal

pub loop-ty-preserved : goal.loop-ty-preserved
loop-ty-preserved c =
    mark_each named_in_type c.args.types.now c.loop-ty.ty-index c.ty-item.result c.loop-ty.marks c.mark_tree.new.marks _ c.loop-ty-test.true c.ty-item.is
    (c.mark_tree.ensures ∙ ap (λ t. marked c.loop-ty.marks (named_in_type t)) c.as_tree.ensures) c.loop-ty.invariant
