use Rattle.std.proofs.Common.{◌≡◌, ◌-◌}
use Rattle.mm_forms.specs.Forms.{each_in}
use Rattle.mm_forms.proofs.Loops.{with_front}
use Rattle.mm_grammar.specs.Codes.{code}
use Rattle.mm_grammar.specs.Seen.{seen}
use Rattle.mm_grammar.specs.Grammar.{declared, lets}
use Rattle.mm_grammar.specs.Reading.{begun, read_from}
use Rattle.mm_parse_bodies.proofs.bodies.lets.Given as goal

abbrev pub invariant-each : goal.invariant-each
invariant-each l = read_from l.first lets (seen l.tokens) ≡ with_front l.types (each_in code (begun declared) (λ i. read_from i declared) (65536 - l.number) l.number (seen l.rest))
