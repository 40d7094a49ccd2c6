-- What contracts see of the tables of names.
use Rattle.std.specs.Prelude.{List, ℕ, Option, None, Some}
use Rattle.std.specs.List.{list_any}
use Rattle.std.specs.Str.{bytes_eq}
use Rattle.indexmap.specs.IndexSet.{IndexSet}
use denote.Ref.{Bor}
use Rattle.mm_mentions.specs.declared.scope.Scope as tables
use Rattle.mm_mentions.specs.Scopes.{Names, Scope, no_names, scope_of}

-- the names that a set has
abbrev pub names_of : {S : Type 0} → IndexSet (Bor (List ℕ)) S → Names
names_of set name = list_any (λ k. bytes_eq name k.now) set.keys

-- the names of the set around, if there is one
abbrev pub names_around : {S : Type 0} → Option (Bor (IndexSet (Bor (List ℕ)) S)) → Names
names_around None = no_names
names_around (Some set) = names_of set.now

unfoldable pub seen : tables.Scope → Scope
seen s = scope_of (names_around s.outer) (names_of s.own.now) s.has_self
