-- The items of a text that are no modules: each with its crate, what paths lead to there, its number and its module.
use Rattle.std.specs.Prelude.{ℕ, List, [], ◌∷◌, ◌++◌, ◌+◌}
use Rattle.mm_ast.specs.declared.items.Crate.{Crate}
use Rattle.mm_ast.specs.declared.items.ItemForm.{ItemForm}
use Rattle.mm_definitions.specs.Placed.{Placed, placed_in, size}
use Rattle.mm_lower.specs.Items.{Site}
use Rattle.mm_lower.specs.Params.{number_of, numbered}
use Rattle.mm_resolve.specs.Scopes.{Scope}
use Rattle.mm_rules.specs.TreeFaults.{Reached, start, entered}

-- an item where it stands
pub record Located : Type 0 where
  -- the number of its crate
  pub krate : ℕ
  -- what is defined in its crate and in those before it
  pub scope : Scope
  -- the number of its definition
  pub number : ℕ
  -- the path of its module
  pub prefix : List ℕ
  pub form : ItemForm

abbrev pub located : ℕ → Scope → ℕ → Placed → Located
located krate scope n p = record { krate = krate; scope = scope; number = n; prefix = p.prefix; form = p.form }

-- items of one crate, of which the first has the number n
abbrev pub located_from : ℕ → Scope → ℕ → List Placed → List Located
located_from krate scope n [] = []
located_from krate scope n (p ∷ ps) = located krate scope n p ∷ located_from krate scope (n + size p.form) ps

-- the items of crates, of which the first has the number c
abbrev pub located_in : ℕ → Reached → List Crate → List Located
located_in c reached [] = []
located_in c reached (k ∷ ks) = located_from c (entered reached k).scope reached.count (placed_in k) ++ located_in (c + 1) (entered reached k) ks

-- the items of all crates, in the order of their first tokens
unfoldable pub items_of : List Crate → List Located
items_of crates = located_in 0 start crates

-- the site of an item, where these are the modules
abbrev pub site : List (List ℕ) → Located → Site
site modules l = record { krate = l.krate; «module» = number_of (numbered modules) l.prefix; prefix = l.prefix; number = l.number }
