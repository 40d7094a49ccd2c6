use Rattle.std.proofs.Common.{◌≡◌, ◌+◌, ◌-◌, ◌*◌, length}
use Rattle.mm_forms.specs.Forms.{each_in}
use Rattle.mm_forms.proofs.Loops.{with_front}
use Rattle.mm_grammar.specs.Codes.{code}
use Rattle.mm_grammar.specs.Seen.{seen}
use Rattle.mm_grammar.specs.TermGrammar.{next_term, more_terms}
use Rattle.mm_grammar.specs.Reading.{begun, read_in_term}
use Rattle.mm_parse_heads.proofs.terms.+terms.Given as goal

abbrev pub decreases-within : goal.decreases-within
decreases-within l = 7 * l.levels

abbrev pub decreases-next_term : goal.decreases-next_term
decreases-next_term l = 7 * l.levels + 1

abbrev pub decreases-more_terms : goal.decreases-more_terms
decreases-more_terms l = 7 * l.levels + 2

abbrev pub decreases-parts : goal.decreases-parts
decreases-parts l = 7 * l.levels + 3

abbrev pub decreases-new_term : goal.decreases-new_term
decreases-new_term l = 7 * l.levels + 4

abbrev pub decreases-shape : goal.decreases-shape
decreases-shape l = 7 * l.levels + 5

abbrev pub decreases-node : goal.decreases-node
decreases-node l = 7 * l.levels + 6

abbrev pub invariant-more_terms-each : goal.invariant-more_terms-each
invariant-more_terms-each l = read_in_term l.levels more_terms (seen l.tokens) ≡ with_front l.terms (each_in code (begun next_term) (λ i. read_in_term l.levels next_term) (length (seen l.tokens) - l.place) l.place (seen l.rest))
