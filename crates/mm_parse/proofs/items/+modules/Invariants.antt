use Rattle.std.proofs.Common.{◌≡◌, ◌+◌, ◌-◌, ◌*◌, length}
use Rattle.mm_forms.specs.Forms.{each_in}
use Rattle.mm_forms.proofs.Loops.{with_front}
use Rattle.mm_grammar.specs.Codes.{code}
use Rattle.mm_grammar.specs.Seen.{seen}
use Rattle.mm_grammar.specs.ItemGrammar.{item, more_items}
use Rattle.mm_grammar.specs.Reading.{begun, read_in_module}
use Rattle.mm_parse.proofs.items.+modules.Given as goal

abbrev pub decreases-within : goal.decreases-within
decreases-within l = 6 * l.levels

abbrev pub decreases-module_entry : goal.decreases-module_entry
decreases-module_entry l = 6 * l.levels + 1

abbrev pub decreases-entry : goal.decreases-entry
decreases-entry l = 6 * l.levels + 2

abbrev pub decreases-item : goal.decreases-item
decreases-item l = 6 * l.levels + 3

abbrev pub decreases-more_items : goal.decreases-more_items
decreases-more_items l = 6 * l.levels + 4

abbrev pub decreases-braces : goal.decreases-braces
decreases-braces l = 6 * l.levels + 5

abbrev pub invariant-more_items-each : goal.invariant-more_items-each
invariant-more_items-each l = read_in_module l.levels more_items (seen l.tokens) ≡ with_front l.items (each_in code (begun item) (λ i. read_in_module l.levels item) (length (seen l.tokens) - l.place) l.place (seen l.rest))
