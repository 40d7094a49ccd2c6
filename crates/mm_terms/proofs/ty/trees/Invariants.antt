use Rattle.std.proofs.Common.{◌≡◌, ◌++◌}
use Rattle.std.specs.Prelude.{All}
use Rattle.std.specs.Vec.Iter.{into_iter_items}
use Rattle.mm_terms.specs.Formed.{IsFormed}
use Rattle.mm_terms.proofs.ty.trees.Given as goal

-- the trees so far are formed, and with the types that are left they are the types
abbrev pub invariant-loop-ty : goal.invariant-loop-ty
invariant-loop-ty l =
    (goal.iterator-loop-ty).can_next l.ty-iterator
    × (goal.iterator-loop-ty).is_finite l.ty-iterator
    × (l.trees.items ++ into_iter_items l.ty-iterator ≡ l.fn.types.items)
    × All IsFormed l.trees.items
