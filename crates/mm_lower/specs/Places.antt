-- Places with their statics looked up.
use Rattle.std.specs.Prelude.{ℕ, List, [], ◌∷◌, map, cond, nat_lt}
use Rattle.mm_ast.specs.declared.bodies.Place as written_place
use Rattle.mm_ast.specs.declared.bodies.Place.TheVariants as places
use Rattle.mm_ast.specs.declared.bodies.Step as written_step
use Rattle.mm_ast.specs.declared.bodies.Step.TheVariants as written
use Rattle.mm_definitions.specs.declared.kinds.Kind.TheVariants as kinds
use Rattle.mm_definitions.specs.declared.kinds.Wanted.TheVariants as wants
use Rattle.mm_program.specs.declared.place.Base.TheVariants as base
use Rattle.mm_program.specs.declared.place.Place.{Place}
use Rattle.mm_program.specs.declared.place.Step.{Step}
use Rattle.mm_program.specs.declared.place.Step.TheVariants as steps
use Rattle.mm_lower.specs.Paths.{Paths, def_of}

-- The greatest number of a field or a variant. No type has one of this number, since no list of a program has 2^32 members
abbrev pub no_number : ℕ
no_number = 4294967295

-- A projection. Which variant a name is, the type of the place says, and types of places are not looked at here
unfoldable pub step_of : written_step.Step → Step
step_of (written.Field n) = steps.Field (cond (nat_lt n no_number) n no_number)
step_of written.Deref = steps.Deref
step_of (written.Variant name) = steps.Variant no_number

abbrev pub steps_of : List written_step.Step → List Step
steps_of list = map step_of list

unfoldable pub place_of : Paths → written_place.Place → Place
place_of paths (places.Local local) = record { base = base.Local local.number; steps = [] }
place_of paths (places.Projection p) = record { base = base.Local p.local.number; steps = step_of p.first ∷ steps_of p.others }
place_of paths (places.Static s) = record { base = base.Static (def_of paths (wants.One kinds.Static) s.path); steps = steps_of s.steps }
