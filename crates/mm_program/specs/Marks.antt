-- Marks of what is named: one for each definition.
use Rattle.std.specs.Prelude.{Bool, true, List, [], ◌∷◌, slice_set}
use Rattle.mm_terms.specs.declared.ids.DefId.{DefId}

-- the marks with those of the names
abbrev pub marked : List Bool → List DefId → List Bool
marked marks [] = marks
marked marks (d ∷ names) = marked (slice_set marks d.0 true) names
