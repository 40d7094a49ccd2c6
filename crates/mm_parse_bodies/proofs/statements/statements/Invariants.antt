use Rattle.std.proofs.Common.{◌≡◌, ◌-◌, length}
use Rattle.mm_forms.specs.Forms.{each_in}
use Rattle.mm_forms.proofs.Loops.{with_front}
use Rattle.mm_grammar.specs.Codes.{code}
use Rattle.mm_grammar.specs.Seen.{seen}
use Rattle.mm_grammar.specs.Grammar.{statement, statements}
use Rattle.mm_grammar.specs.Reading.{begun, read}
use Rattle.mm_parse_bodies.proofs.statements.statements.Given as goal

abbrev pub invariant-each : goal.invariant-each
invariant-each l = read statements (seen l.tokens) ≡ with_front l.statements (each_in code (begun statement) (λ i. read statement) (length (seen l.tokens) - l.place) l.place (seen l.rest))
