-- The modules of a text, each by its path: of each crate its top, and the modules in it, in the order of their first tokens.
use Rattle.std.specs.Prelude.{ℕ, List, [], ◌∷◌}
use Rattle.std.specs.List.{flat_map}
use Rattle.mm_ast.specs.declared.items.Crate.{Crate}
use Rattle.mm_ast.specs.declared.items.Item.{Item}
use Rattle.mm_ast.specs.declared.items.ItemForm.{ItemForm}
use Rattle.mm_ast.specs.declared.items.ItemForm.TheVariants as forms
use Rattle.mm_definitions.specs.Paths.{path_in}
use Rattle.mm_definitions.specs.Trees.{item_fold}

-- an item of the module with this path: if it is a module, its path, and those of the modules in it
unfoldable pub form_modules : List ℕ → ItemForm → List (List ℕ → List (List ℕ)) → List (List ℕ)
form_modules prefix (forms.Module name) inside = path_in prefix name.text ∷ flat_map (λ item. item (path_in prefix name.text)) inside
form_modules prefix (forms.Impl impl) inside = []
form_modules prefix (forms.Definition definition) inside = []

unfoldable pub item_modules : Item → List ℕ → List (List ℕ)
item_modules = item_fold (λ line form inside prefix. form_modules prefix form inside)

-- the modules among the items of the module with this path
abbrev pub items_modules : List ℕ → List Item → List (List ℕ)
items_modules prefix items = flat_map (λ item. item_modules item prefix) items

unfoldable pub modules_in : Crate → List (List ℕ)
modules_in krate = krate.name.text ∷ items_modules krate.name.text krate.items

-- the modules of all crates. One that is opened twice in a crate stands in it twice, and goes by the first place
abbrev pub modules_of : List Crate → List (List ℕ)
modules_of crates = flat_map modules_in crates
