use Rattle.std.proofs.Common.{◌≡◌, ◌+◌, sum, map, take}
use Rattle.mm_load_plain.specs.Rules.{type_length}
use Rattle.mm_definitions.specs.Trees.{children_of}
use Rattle.mm_load_plain.proofs.long_type.+room_after.Given as goal

abbrev pub invariant-loop-child : goal.invariant-loop-child
invariant-loop-child l = l.room + sum (map type_length (take l.child-index (children_of l.ty))) + 1 ≡ l.fn.room
