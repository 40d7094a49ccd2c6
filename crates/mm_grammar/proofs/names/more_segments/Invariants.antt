use Rattle.std.proofs.Common.{◌≡◌, ◌-◌, length}
use Rattle.mm_forms.specs.Forms.{each_in}
use Rattle.mm_forms.proofs.Loops.{with_front}
use Rattle.mm_grammar.specs.Codes.{code}
use Rattle.mm_grammar.specs.Seen.{seen}
use Rattle.mm_grammar.specs.Grammar.{segment, more_segments}
use Rattle.mm_grammar.specs.Reading.{begun, read}
use Rattle.mm_grammar.proofs.names.more_segments.Given as goal

abbrev pub invariant-each : goal.invariant-each
invariant-each l = read more_segments (seen l.tokens) ≡ with_front l.names (each_in code (begun segment) (λ i. read segment) (length (seen l.tokens) - l.place) l.place (seen l.rest))
