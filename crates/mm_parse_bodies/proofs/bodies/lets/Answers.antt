use Rattle.std.proofs.Common.{◌∙◌, sym}
use Rattle.mm_forms.proofs.Loops.{each_step}
use Rattle.mm_grammar.specs.Codes.{code}
use Rattle.mm_grammar.specs.Seen.{seen}
use Rattle.mm_grammar.specs.Grammar.{declared}
use Rattle.mm_grammar.specs.Reading.{begun, read_from}
use Rattle.mm_parse_bodies.proofs.bodies.lets.Goals as goal

pub each-preserved : goal.each-preserved
each-preserved c = each_step code (begun declared) (λ i. read_from i declared) 65536 c.each.number (seen c.each.rest) (seen c.in_ok-ty.after) c.in_ok-ty.ty c.each.types _ _ c.each.invariant c.each-test.true (sym c.starts_let.ensures ∙ c.if-not-starts_let.false) c.in_ok-ty.ensures c.in_ok-push.ensures.ok
