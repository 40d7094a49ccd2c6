-- What the paths of a text stand for.
use Rattle.std.specs.Prelude.{ℕ, List, Option}
use Rattle.std.specs.Option.{option_map_or}
use Rattle.mm_ast.specs.declared.names.Name.{Name}
use Rattle.mm_ast.specs.declared.names.Path.{Path}
use Rattle.mm_definitions.specs.declared.kinds.Kind.{Kind}
use Rattle.mm_definitions.specs.declared.kinds.Wanted.{Wanted}
use Rattle.mm_definitions.specs.declared.kinds.Wanted.TheVariants as wants
use Rattle.mm_definitions.specs.declared.named.Named.{Named}
use Rattle.mm_definitions.specs.Paths.{path_in, path_named}
use Rattle.mm_terms.specs.declared.ids.DefId.{DefId}

-- what a path leads to, where something of a wanted kind has it
abbrev pub Paths : Type 0
Paths = Wanted → List ℕ → Option Named

abbrev pub def_id : ℕ → DefId
def_id n = record { 0 = n }

-- the definition of what has a path. A path that leads to nothing stands in no text that keeps the rules
abbrev pub def_at : Paths → Wanted → List ℕ → DefId
def_at paths wanted path = option_map_or (λ d. d.def) (paths wanted path) (def_id 0)

-- the definition that a path names
abbrev pub def_of : Paths → Wanted → Path → DefId
def_of paths wanted path = def_at paths wanted (path_named path)

-- the place of a variant in its enum, or of a method in its trait
abbrev pub place_at : Paths → Kind → Path → Name → ℕ
place_at paths kind path name = option_map_or (λ d. d.place) (paths (wants.One kind) (path_in (path_named path) name.text)) 0
