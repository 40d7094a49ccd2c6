use Rattle.std.proofs.Common.{◌∙◌, sym}
use Rattle.mm_forms.proofs.Loops.{each_step}
use Rattle.mm_grammar.specs.Codes.{code}
use Rattle.mm_grammar.specs.Seen.{seen}
use Rattle.mm_grammar.specs.Grammar.{step}
use Rattle.mm_grammar.specs.Reading.{begun, read}
use Rattle.mm_parse_bodies.proofs.places.steps_behind.Goals as goal

pub each-preserved : goal.each-preserved
each-preserved c =
    each_step code (begun step) (λ i. read step) c.args.limit c.each.place (seen c.each.rest) (seen c.in_ok-projection.after) c.in_ok-projection.projection c.each.projections _ _ c.each.invariant c.each-test.true (sym c.begins_step.ensures ∙ c.if-not-begins_step.false) c.in_ok-projection.ensures c.in_ok-push.ensures.ok
