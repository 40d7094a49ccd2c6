use Rattle.std.proofs.Common.{◌≡◌, ◌-◌, length}
use Rattle.mm_forms.specs.Forms.{each_in}
use Rattle.mm_forms.proofs.Loops.{with_front}
use Rattle.mm_grammar.specs.Codes.{code}
use Rattle.mm_grammar.specs.Seen.{seen}
use Rattle.mm_grammar.specs.Grammar.{next_operand, more_operands}
use Rattle.mm_grammar.specs.Reading.{begun, read}
use Rattle.mm_parse_bodies.proofs.operands.more_operands.Given as goal

abbrev pub invariant-each : goal.invariant-each
invariant-each l = read more_operands (seen l.tokens) ≡ with_front l.operands (each_in code (begun next_operand) (λ i. read next_operand) (length (seen l.tokens) - l.place) l.place (seen l.rest))
