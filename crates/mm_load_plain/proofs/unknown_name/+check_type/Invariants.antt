use Rattle.std.proofs.Common.{◌≡◌, [], take}
use Rattle.std.specs.List.{flat_map}
use Rattle.mm_load_plain.specs.Names.{look_up}
use Rattle.mm_load_plain.specs.Rules.{unknown_in_type}
use Rattle.mm_definitions.specs.Trees.{children_of}
use Rattle.mm_load_plain.proofs.unknown_name.+check_type.Given as goal

abbrev pub invariant-loop-child : goal.invariant-loop-child
invariant-loop-child l = flat_map (unknown_in_type (look_up l.scope)) (take l.child-index (children_of l.ty)) ≡ []
