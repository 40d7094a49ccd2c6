use Rattle.std.proofs.Common.{ap, ◌∙◌}
use Rattle.mm_program.specs.Marks.{marked}
use Rattle.mm_program.specs.Naming.{named_in_types}
use Rattle.mm_program.proofs.MarkLemmas.{mark_each}
use Rattle.mm_program.proofs.marking.definitions.mark_variants.Goals as goal

pub loop-fields-preserved : goal.loop-fields-preserved
loop-fields-preserved c =
    mark_each named_in_types c.args.variants.now c.loop-fields.fields-index c.fields-item.result c.loop-fields.marks c.mark_types.new.marks _ c.loop-fields-test.true c.fields-item.is (c.mark_types.ensures ∙ ap (λ ts. marked c.loop-fields.marks (named_in_types ts)) c.as_slice.ensures) c.loop-fields.invariant
