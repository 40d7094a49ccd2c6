use Rattle.std.proofs.Common.{◌≡◌, ◌+◌, ◌-◌, ◌*◌, length}
use Rattle.mm_symbols.specs.Reading.{within_in, each_in}
use Rattle.mm_symbols.proofs.Loops.{with_prefix}
use Rattle.mm_symbols.proofs.types.+types.Given as goal

abbrev pub decreases-within : goal.decreases-within
decreases-within l = 9 * l.levels

abbrev pub decreases-each_type : goal.decreases-each_type
decreases-each_type l = 9 * l.levels + 1

abbrev pub decreases-types : goal.decreases-types
decreases-types l = 9 * l.levels + 2

abbrev pub decreases-args : goal.decreases-args
decreases-args l = 9 * l.levels + 3

abbrev pub decreases-named : goal.decreases-named
decreases-named l = 9 * l.levels + 4

abbrev pub decreases-tuple : goal.decreases-tuple
decreases-tuple l = 9 * l.levels + 5

abbrev pub decreases-single : goal.decreases-single
decreases-single l = 9 * l.levels + 5

abbrev pub decreases-signature : goal.decreases-signature
decreases-signature l = 9 * l.levels + 5

abbrev pub decreases-defined : goal.decreases-defined
decreases-defined l = 9 * l.levels + 5

abbrev pub decreases-shape : goal.decreases-shape
decreases-shape l = 9 * l.levels + 6

abbrev pub decreases-node : goal.decreases-node
decreases-node l = 9 * l.levels + 7

abbrev pub invariant-each_type-each : goal.invariant-each_type-each
invariant-each_type-each l = each_in (within_in l.levels) (length l.bytes) l.bytes ≡ with_prefix l.types (each_in (within_in l.levels) (length l.bytes - l.place) l.rest)
