-- The tree of a place, made of what it begins with and the projections from it.
use Rattle.std.specs.Prelude.{ℕ, List, [], ◌∷◌}
use Rattle.mm_ast.specs.declared.bodies.Local.{Local}
use Rattle.mm_ast.specs.declared.bodies.Place.{Place}
use Rattle.mm_ast.specs.declared.bodies.Place.TheVariants as places
use Rattle.mm_ast.specs.declared.bodies.Step.{Step}
use Rattle.mm_grammar.specs.declared.heads.Base.{Base}
use Rattle.mm_grammar.specs.declared.heads.Base.TheVariants as bases

-- the place that a local and the projections from it are
abbrev pub projected : Local → List Step → Place
projected local [] = places.Local local
projected local (first ∷ others) = places.Projection (record { local = local; first = first; others = others })

-- the place that begins in this line, with this and the projections from it
abbrev pub place_at : ℕ → Base → List Step → Place
place_at line (bases.Local number) steps = projected (record { line = line; number = number }) steps
place_at line (bases.Static path) steps = places.Static (record { line = line; path = path; steps = steps })
