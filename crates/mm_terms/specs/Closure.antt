-- The mono items of a crate: the closure of its roots under use.
--     roots      the items that are needed from the start
--     uses x     the items that x uses
use Rattle.std.specs.Prelude.{◌≡◌, ℕ, ◌+◌, List, [], ◌∷◌, length, All, Contains}
use Rattle.std.specs.List.{IsDistinct}
use Rattle.mm_terms.specs.declared.item.Item.{Item}
use Rattle.mm_terms.specs.Same.{same_item}

module _ (roots : List Item) (uses : Item → List Item) where
  -- A chain of uses begins at a root, and each item in it uses the next. x ends one, after the items before it, the nearest first: that one uses x and ends the rest of the chain
  abbrev pub EndsChain : Item → List Item → Type 0
  EndsChain x [] = Contains roots x
  EndsChain x (user ∷ before) = Contains (uses user) x × EndsChain user before

  -- x is a member of the closure: some finite chain of uses ends with it
  abbrev pub IsMember : Item → Type 0
  IsMember x = (before : List Item) × EndsChain x before

  -- a set, reported by what holds of the items in it, holds the roots and is closed under use
  pub record IsClosed (P : Item → Type 0) : Type 0 where
    pub root : (x : Item) → Contains roots x → P x
    pub used : (x y : Item) → P x → Contains (uses x) y → P y

  -- these are the members of the closure, each once
  pub record AreMembers (items : List Item) : Type 0 where
    pub once : IsDistinct same_item items
    pub each : All IsMember items
    pub all : (x : Item) → IsMember x → Contains items x

  -- the closure has more than n members: here are n + 1, each once
  pub record HasMoreThan (n : ℕ) : Type 0 where
    pub items : List Item
    pub many : length items ≡ n + 1
    pub once : IsDistinct same_item items
    pub each : All IsMember items
