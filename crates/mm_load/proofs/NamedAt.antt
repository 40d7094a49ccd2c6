-- From which item a name comes, and in which scope an item is named.
use Rattle.std.proofs.Common.{ℕ, ◌+◌, ◌<◌, ⊎_elim, List, length, take}
use Rattle.std.specs.List.{Contains}
use Rattle.mm_ast.specs.declared.items.Crate.{Crate}
use Rattle.mm_definitions.specs.Definitions.{form_named}
use Rattle.mm_definitions.specs.declared.named.Named.{Named}
use Rattle.mm_resolve.specs.Scopes.{all}
use Rattle.mm_rules.specs.TreeFaults.{start, scope_of}
use Rattle.mm_terms.proofs.ListLemmas.{Contains-nil}
use Rattle.mm_load.specs.Located.{Located, items_of}
use Rattle.mm_load.proofs.NamedItems.{named_in, located_in-take, own_in}

-- the item that a name is of
pub record NamedBy (crates : List Crate) (d : Named) : Type 0 where
  pub item : Located
  pub among : Contains (items_of crates) item
  pub named : Contains (form_named item.number item.prefix item.form) d

-- what is in the scope of a crate is of an item of the text
pub named_by : (crates : List Crate) (i : ℕ) (d : Named) → i < length crates → Contains (all (scope_of crates i)) d → NamedBy crates d
unfolding items_of
named_by crates i d within has =
    ⊎_elim (λ nothing. absurd (Contains-nil d nothing))
    (λ by. record { item = by.item; among = located_in-take 0 start (i + 1) crates by.item by.among; named = by.named })
    (named_in 0 start (take (i + 1) crates) d has)

-- what an item is called is in the scope of its own crate
pub in_own_scope : (crates : List Crate) (l : Located) (d : Named) → Contains (items_of crates) l → Contains (form_named l.number l.prefix l.form) d → Contains l.scope.own d
unfolding items_of
in_own_scope crates l d has named = own_in 0 start crates l d has named
