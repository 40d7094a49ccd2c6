use Rattle.std.proofs.Common.{◌≡◌, ◌-◌, length}
use Rattle.mm_forms.specs.Forms.{each_in}
use Rattle.mm_forms.proofs.Loops.{with_front}
use Rattle.mm_grammar.specs.Codes.{code}
use Rattle.mm_grammar.specs.Seen.{seen}
use Rattle.mm_grammar.specs.ItemGrammar.{next_bound, more_bounds}
use Rattle.mm_grammar.specs.Reading.{begun, read}
use Rattle.mm_parse_heads.proofs.signatures.more_bounds.Given as goal

abbrev pub invariant-each : goal.invariant-each
invariant-each l = read more_bounds (seen l.tokens) ≡ with_front l.bounds (each_in code (begun next_bound) (λ i. read next_bound) (length (seen l.tokens) - l.place) l.place (seen l.rest))
