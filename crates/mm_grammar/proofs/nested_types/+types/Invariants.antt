use Rattle.std.proofs.Common.{◌≡◌, ◌+◌, ◌-◌, ◌*◌, length}
use Rattle.mm_forms.specs.Forms.{each_in}
use Rattle.mm_forms.proofs.Loops.{with_front}
use Rattle.mm_grammar.specs.Codes.{code}
use Rattle.mm_grammar.specs.Seen.{seen}
use Rattle.mm_grammar.specs.Grammar.{next_type, more_types}
use Rattle.mm_grammar.specs.Reading.{begun, read_in_type}
use Rattle.mm_grammar.proofs.nested_types.+types.Given as goal

abbrev pub decreases-within : goal.decreases-within
decreases-within l = 10 * l.levels

abbrev pub decreases-next_type : goal.decreases-next_type
decreases-next_type l = 10 * l.levels + 1

abbrev pub decreases-more_types : goal.decreases-more_types
decreases-more_types l = 10 * l.levels + 2

abbrev pub decreases-some_types_within : goal.decreases-some_types_within
decreases-some_types_within l = 10 * l.levels + 3

abbrev pub decreases-args_within : goal.decreases-args_within
decreases-args_within l = 10 * l.levels + 4

abbrev pub decreases-tys_within : goal.decreases-tys_within
decreases-tys_within l = 10 * l.levels + 4

abbrev pub decreases-fields : goal.decreases-fields
decreases-fields l = 10 * l.levels + 4

abbrev pub decreases-path_args_within : goal.decreases-path_args_within
decreases-path_args_within l = 10 * l.levels + 5

abbrev pub decreases-behind_krate : goal.decreases-behind_krate
decreases-behind_krate l = 10 * l.levels + 5

abbrev pub decreases-tuple : goal.decreases-tuple
decreases-tuple l = 10 * l.levels + 6

abbrev pub decreases-reference : goal.decreases-reference
decreases-reference l = 10 * l.levels + 6

abbrev pub decreases-boxed : goal.decreases-boxed
decreases-boxed l = 10 * l.levels + 6

abbrev pub decreases-fn_pointer : goal.decreases-fn_pointer
decreases-fn_pointer l = 10 * l.levels + 6

abbrev pub decreases-named : goal.decreases-named
decreases-named l = 10 * l.levels + 6

abbrev pub decreases-path_shape : goal.decreases-path_shape
decreases-path_shape l = 10 * l.levels + 7

abbrev pub decreases-shape : goal.decreases-shape
decreases-shape l = 10 * l.levels + 8

abbrev pub decreases-node : goal.decreases-node
decreases-node l = 10 * l.levels + 9

abbrev pub invariant-more_types-each : goal.invariant-more_types-each
invariant-more_types-each l = read_in_type l.levels more_types (seen l.tokens) ≡ with_front l.types (each_in code (begun next_type) (λ i. read_in_type l.levels next_type) (length (seen l.tokens) - l.place) l.place (seen l.rest))
