-- What a path can lead to from a crate.
use Rattle.std.specs.Prelude.{◌≡◌, ℕ, List, ◌++◌, Option, filter}
use Rattle.std.specs.Option.{option_or}
use Rattle.mm_definitions.specs.declared.kinds.Kind.{Kind}
use Rattle.mm_definitions.specs.declared.kinds.Kind.TheVariants.{Struct, Enum, Closure}
use Rattle.mm_definitions.specs.declared.named.Named.{Named}
use Rattle.mm_definitions.specs.declared.kinds.Wanted.{Wanted}
use Rattle.mm_definitions.specs.declared.kinds.Wanted.TheVariants.{One, Adt, Whole}
use Rattle.mm_resolve.specs.Resolving.{first_of, look_up}
use Rattle.mm_resolve.specs.declared.scope_table.ScopeTable.{ScopeTable}

-- the definitions of a crate, and those of the crates before it
pub record Scope : Type 0 where
  pub earlier : List Named
  pub own : List Named

-- the scope of the next crate, which defines these
abbrev pub next : Scope → List Named → Scope
next scope own = record { earlier = scope.earlier ++ scope.own; own = own }

-- a path names what is defined in its crate or in an earlier one
abbrev pub all : Scope → List Named
all scope = scope.earlier ++ scope.own

-- of an earlier crate it may name what is `pub`
abbrev pub visible : Scope → List Named
visible scope = filter (λ d. d.is_pub) scope.earlier ++ scope.own

-- the definition of the wanted kind that has a path
abbrev pub found : (Kind → List ℕ → Option Named) → Wanted → List ℕ → Option Named
found first (One kind) path = first kind path
found first Adt path = option_or (first Struct path) (first Enum path)
found first Whole path = option_or (first Struct path) (first Closure path)

-- what a path leads to, `pub` or not
abbrev pub leads_to : Scope → Wanted → List ℕ → Option Named
leads_to scope = found (first_of (all scope))

-- what it leads to by the tables
abbrev pub leading : ScopeTable → Wanted → List ℕ → Option Named
leading tables = found (look_up tables.all)

-- the tables resolve as the scope says
pub record Knows (tables : ScopeTable) (scope : Scope) : Type 0 where
  pub all : look_up tables.all ≡ first_of (all scope)
  pub shared : look_up tables.shared ≡ first_of (filter (λ d. d.is_pub) scope.earlier)
  pub own : look_up tables.own ≡ first_of scope.own
  pub defined : tables.defined.now ≡ scope.own
