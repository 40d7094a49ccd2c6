use Rattle.std.proofs.Common.{◌≡◌, ◌-◌, length}
use Rattle.mm_forms.specs.Forms.{each_in}
use Rattle.mm_forms.proofs.Loops.{with_front}
use Rattle.mm_grammar.specs.Codes.{code}
use Rattle.mm_grammar.specs.Seen.{seen}
use Rattle.mm_grammar.specs.Grammar.{next_name, more_names}
use Rattle.mm_grammar.specs.Reading.{begun, read}
use Rattle.mm_grammar.proofs.names.more_names.Given as goal

abbrev pub invariant-each : goal.invariant-each
invariant-each l = read more_names (seen l.tokens) ≡ with_front l.names (each_in code (begun next_name) (λ i. read next_name) (length (seen l.tokens) - l.place) l.place (seen l.rest))
