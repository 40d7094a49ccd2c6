use Rattle.std.proofs.Common.{◌≡◌, map, take}
use Rattle.mm_load_plain.specs.Names.{look_up}
use Rattle.mm_load_plain.specs.Meaning.{type_of}
use Rattle.mm_definitions.specs.Trees.{children_of}
use Rattle.mm_load_plain.proofs.types.+load_type.Given as goal

abbrev pub invariant-loop-child : goal.invariant-loop-child
invariant-loop-child l = l.children.items ≡ map (type_of (look_up l.scope)) (take l.child-index (children_of l.ty))
