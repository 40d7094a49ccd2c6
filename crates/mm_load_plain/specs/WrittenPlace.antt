-- Places as they are written.
use Rattle.std.specs.Prelude.{ℕ}
use Rattle.mm_ast.specs.declared.bodies.Place.{Place}
use Rattle.mm_ast.specs.declared.bodies.Place.TheVariants as places

-- the local in which a place lies
abbrev pub local_of : Place → ℕ
local_of (places.Local local) = local.number
local_of (places.Projection projection) = projection.local.number
local_of (places.Static static) = 0

-- the line of the first token of a place
abbrev pub place_line : Place → ℕ
place_line (places.Local local) = local.line
place_line (places.Projection projection) = projection.local.line
place_line (places.Static static) = static.line
