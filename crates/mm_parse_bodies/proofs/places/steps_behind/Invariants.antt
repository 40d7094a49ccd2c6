use Rattle.std.proofs.Common.{◌≡◌, ◌-◌}
use Rattle.mm_forms.specs.Forms.{each_in}
use Rattle.mm_forms.proofs.Loops.{with_front}
use Rattle.mm_grammar.specs.Codes.{code}
use Rattle.mm_grammar.specs.Seen.{seen}
use Rattle.mm_grammar.specs.Grammar.{step}
use Rattle.mm_grammar.specs.Reading.{begun, read}
use Rattle.mm_parse_bodies.proofs.places.steps_behind.Given as goal

abbrev pub invariant-each : goal.invariant-each
invariant-each l = each_in code (begun step) (λ i. read step) (l.limit - l.before) l.before (seen l.tokens) ≡ with_front l.projections (each_in code (begun step) (λ i. read step) (l.limit - l.place) l.place (seen l.rest))
