-- Items of a program that can be compiled and linked.
use Rattle.std.specs.Prelude.{◌≤◌, List, All, Contains}
use Rattle.std.specs.List.{IsDistinct}
use Rattle.mm_terms.specs.declared.item.Item.{Item}
use Rattle.mm_terms.specs.Order.{types_of}
use Rattle.mm_terms.specs.Same.{same_item}
use Rattle.mm_plain.specs.Roots.{main_item}
use Rattle.mm_plain.specs.WellFormed.{IsWellFormed, IsInstanceIn}
use Rattle.mm_plain.specs.declared.program.Program.{Program}
use Rattle.mm_names.specs.Names.{IsName}
use Rattle.mm_objects.specs.Emitted.{UseThemselves}
use Rattle.mm_symbols.specs.ItemForms.{HasNames, depth_of}

-- The program is well-formed, and names tell its functions apart. The items are instances of its functions, each once,
-- and the one that a run begins with is among them, as is all that they use. Their types nest no deeper than types of
-- symbols do.
pub record IsComplete (p : Program) (items : List Item) : Type 0 where
  pub well_formed : IsWellFormed p
  pub krate : IsName p.krate
  pub names : HasNames p
  pub instances : All (IsInstanceIn p) items
  pub once : IsDistinct same_item items
  pub main : Contains items (main_item p)
  pub uses : UseThemselves p items
  pub shallow : All (λ x. All (λ t. depth_of t ≤ 4096) (types_of x)) items
