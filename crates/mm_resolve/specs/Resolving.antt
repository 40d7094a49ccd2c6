-- To which definition a kind and a path resolve: the first one.
use Rattle.std.specs.Prelude.{ℕ, List, Option, Bool, ◌&&◌}
use Rattle.std.specs.List.{find}
use Rattle.std.specs.Option.{option_map}
use Rattle.std.specs.Str.{bytes_eq}
use Rattle.indexmap.specs.IndexMap.{IndexMap, get_by}
use denote.Ref.{Bor}
use Rattle.mm_definitions.specs.declared.kinds.Kind.{Kind}
use Rattle.mm_definitions.specs.declared.named.Named.{Named}
use Rattle.mm_definitions.specs.contracts.kinds.KindPartialEq.TheImpl as kind
use Rattle.mm_resolve.specs.declared.index.Key.{Key}

-- it is of this kind and has this path
abbrev pub is_named : Kind → List ℕ → Named → Bool
is_named k path d = (kind.ghosts).eq k d.kind && bytes_eq path d.path

-- the first definition of a kind and a path
abbrev pub first_of : List Named → Kind → List ℕ → Option Named
first_of defs k path = find (is_named k path) defs

-- how a table resolves
abbrev pub look_up : {S : Type 0} → IndexMap Key (Bor Named) S → Kind → List ℕ → Option Named
look_up index k path = option_map (λ d. d.now) (get_by (λ key. (kind.ghosts).eq k key.kind && bytes_eq path key.path.now) index)
