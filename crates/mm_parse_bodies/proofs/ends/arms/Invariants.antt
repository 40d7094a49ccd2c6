use Rattle.std.proofs.Common.{◌≡◌, ◌-◌, length}
use Rattle.mm_forms.specs.Forms.{each_in}
use Rattle.mm_forms.proofs.Loops.{with_front}
use Rattle.mm_grammar.specs.Codes.{code}
use Rattle.mm_grammar.specs.Seen.{seen}
use Rattle.mm_grammar.specs.Grammar.{arm, arms}
use Rattle.mm_grammar.specs.Reading.{begun, read}
use Rattle.mm_parse_bodies.proofs.ends.arms.Given as goal

abbrev pub invariant-each : goal.invariant-each
invariant-each l = read arms (seen l.tokens) ≡ with_front l.arms (each_in code (begun arm) (λ i. read arm) (length (seen l.tokens) - l.place) l.place (seen l.rest))
