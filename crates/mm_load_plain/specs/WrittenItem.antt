-- The items of a crate: their names, and the functions among them.
use Rattle.std.specs.Prelude.{ℕ, List, [], ◌∷◌, ◌++◌, map, Bool}
use Rattle.std.specs.List.{flat_map}
use Rattle.mm_ast.specs.declared.items.Ast.{Ast}
use Rattle.mm_ast.specs.declared.items.Crate.{Crate}
use Rattle.mm_ast.specs.declared.items.DefinitionForm.{DefinitionForm}
use Rattle.mm_ast.specs.declared.items.DefinitionForm.TheVariants as definitions
use Rattle.mm_ast.specs.declared.items.Function.{Function}
use Rattle.mm_ast.specs.declared.items.Item.{Item}
use Rattle.mm_ast.specs.declared.items.ItemForm.{ItemForm}
use Rattle.mm_ast.specs.declared.items.ItemForm.TheVariants as forms
use Rattle.mm_ast.specs.declared.names.Name.{Name}
use Rattle.mm_definitions.specs.Trees.{form_of, item_fold}
use Rattle.mm_load_plain.specs.Names.{Names, joined, index_of}

-- ---- names

abbrev pub no_name : Name
no_name = record { line = 0; text = [] }

-- what is defined has a name
unfoldable pub definition_name : DefinitionForm → Name
definition_name (definitions.Function f) = f.name
definition_name (definitions.Closure c) = c.name
definition_name (definitions.Struct s) = s.name
definition_name (definitions.Enum e) = e.name
definition_name (definitions.Trait t) = t.name
definition_name (definitions.Static s) = s.name
definition_name (definitions.Const c) = c.name

-- the name of an item; an impl has none
unfoldable pub form_name : ItemForm → Name
form_name (forms.Module name) = name
form_name (forms.Impl impl) = no_name
form_name (forms.Definition definition) = definition_name definition.form

abbrev pub name_of : Item → Name
name_of item = form_name (form_of item)

-- ---- functions

-- a function of a crate: its path, the line of its first token, whether it is `pub`, and what is written of it
pub record Defined : Type 0 where
  pub path : List ℕ
  pub line : ℕ
  pub is_pub : Bool
  pub function : Function

-- the path of what has a name in the module with a path
abbrev pub path_in : List ℕ → List ℕ → List ℕ
path_in prefix name = joined prefix (name ∷ [])

-- a definition alone, where it is that of a function
abbrev pub function_by : List ℕ → ℕ → Bool → DefinitionForm → List Defined
function_by path line is_pub (definitions.Function f) = record { path = path; line = line; is_pub = is_pub; function = f } ∷ []
function_by path line is_pub _ = []

-- an item alone, where it is a function
abbrev pub defined_by : List ℕ → ℕ → ItemForm → List Defined
defined_by path line (forms.Definition definition) = function_by path line definition.is_pub definition.form
defined_by path line _ = []

-- an item where it is a function, and the functions of what stands in it; the item stands in the module with a path
unfoldable pub functions_in : Item → List ℕ → List Defined
functions_in = item_fold (λ line form inside prefix. defined_by (path_in prefix (form_name form).text) line form ++ flat_map (λ functions. functions (path_in prefix (form_name form).text)) inside)

-- All functions of a crate, modules entered where they stand, and so in order of their first tokens. The index of a
-- function, from 0, is its number.
unfoldable pub functions_of : Crate → List Defined
functions_of krate = flat_map (λ item. functions_in item krate.name.text) krate.items

-- to which of these functions each path resolves
abbrev pub paths_to : List Defined → Names
paths_to functions = index_of (map (λ d. d.path) functions)

-- to which function of the crate each path resolves
abbrev pub paths_in : Crate → Names
paths_in krate = paths_to (functions_of krate)

-- ---- the crate

-- the first crate; there is one in each tree that is built
abbrev pub first_crate : List Crate → Crate
first_crate [] = record { line = 0; name = no_name; items = [] }
first_crate (krate ∷ others) = krate

abbrev pub crate_of : Ast → Crate
crate_of tree = first_crate tree.crates
