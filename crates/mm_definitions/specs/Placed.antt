-- The items of a crate that are no modules, in the order of their first tokens, and how many definitions they are.
use Rattle.std.specs.Prelude.{ℕ, List, [], ◌∷◌, ◌+◌, length}
use Rattle.std.specs.List.{flat_map, sum_by}
use Rattle.mm_ast.specs.declared.items.Crate.{Crate}
use Rattle.mm_ast.specs.declared.items.DefinitionForm.{DefinitionForm}
use Rattle.mm_ast.specs.declared.items.DefinitionForm.TheVariants as definitions
use Rattle.mm_ast.specs.declared.items.ImplForm.{ImplForm}
use Rattle.mm_ast.specs.declared.items.ImplForm.TheVariants as impls
use Rattle.mm_ast.specs.declared.items.Item.{Item}
use Rattle.mm_ast.specs.declared.items.ItemForm.{ItemForm}
use Rattle.mm_ast.specs.declared.items.ItemForm.TheVariants as forms
use Rattle.mm_definitions.specs.Paths.{path_in}
use Rattle.mm_definitions.specs.Trees.{item_fold}

-- an item that is no module, and the path of the module in which it stands
pub record Placed : Type 0 where
  pub prefix : List ℕ
  pub form : ItemForm

-- ---- the items

abbrev pub alone : List ℕ → ItemForm → List Placed
alone prefix form = record { prefix = prefix; form = form } ∷ []

-- an item of the module with this path, and the items in it, by the path of the module in which they stand
unfoldable pub form_placed : List ℕ → ItemForm → List (List ℕ → List Placed) → List Placed
form_placed prefix (forms.Module name) inside = flat_map (λ item. item (path_in prefix name.text)) inside
form_placed prefix (forms.Impl impl) inside = alone prefix (forms.Impl impl)
form_placed prefix (forms.Definition definition) inside = alone prefix (forms.Definition definition)

unfoldable pub item_placed : Item → List ℕ → List Placed
item_placed = item_fold (λ line form inside prefix. form_placed prefix form inside)

-- the items of a module with this path
abbrev pub items_placed : List ℕ → List Item → List Placed
items_placed prefix items = flat_map (λ item. item_placed item prefix) items

-- the items of a crate, modules entered where they stand
unfoldable pub placed_in : Crate → List Placed
placed_in krate = items_placed krate.name.text krate.items

-- ---- how many definitions they are

-- a trait counts its methods
unfoldable pub definition_size : DefinitionForm → ℕ
definition_size (definitions.Function f) = 1
definition_size (definitions.Closure c) = 1
definition_size (definitions.Struct s) = 1
definition_size (definitions.Enum e) = 1
definition_size (definitions.Trait t) = 1 + length t.methods
definition_size (definitions.Static s) = 1
definition_size (definitions.Const c) = 1

-- an impl and its methods; a Drop impl has one
unfoldable pub impl_size : ImplForm → ℕ
impl_size (impls.Drop drop) = 2
impl_size (impls.Trait t) = 1 + length t.methods

-- a module is no definition
unfoldable pub size : ItemForm → ℕ
size (forms.Module name) = 0
size (forms.Impl impl) = impl_size impl.form
size (forms.Definition definition) = definition_size definition.form

abbrev pub sizes : List Placed → ℕ
sizes ps = sum_by (λ p. size p.form) ps

-- how many definitions a crate has
unfoldable pub count_in : Crate → ℕ
count_in krate = sizes (placed_in krate)
