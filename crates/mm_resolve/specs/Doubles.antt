-- Names that have to differ: those of the crates, those of the definitions and modules of one module, those of the type
-- parameters in scope together, those of the variants of an enum, and those of the methods of a trait or an impl. Of two that
-- are the same the second one is the place that fails.
use Rattle.std.specs.Prelude.{◌≡◌, ℕ, List, [], ◌∷◌, ◌++◌, map, Option, Some, None, Bool, true, false}
use Rattle.std.specs.Borrow.{Bor}
use Rattle.std.specs.List.{flat_map, filter_map, list_any}
use Rattle.std.specs.Str.{bytes_eq}
use Rattle.indexmap.specs.IndexSet.{IndexSet}
use Rattle.mm_ast.specs.declared.items.Crate.{Crate}
use Rattle.mm_ast.specs.declared.items.DefinitionForm.{DefinitionForm}
use Rattle.mm_ast.specs.declared.items.DefinitionForm.TheVariants as definitions
use Rattle.mm_ast.specs.declared.items.ImplForm.{ImplForm}
use Rattle.mm_ast.specs.declared.items.ImplForm.TheVariants as impls
use Rattle.mm_ast.specs.declared.items.Item.{Item}
use Rattle.mm_ast.specs.declared.items.Item.TheFolds.{fold-Item}
use Rattle.mm_ast.specs.declared.items.Item.TheViews.{out-Item}
use Rattle.mm_ast.specs.declared.items.ItemForm.{ItemForm}
use Rattle.mm_ast.specs.declared.items.ItemForm.TheVariants as forms
use Rattle.mm_ast.specs.declared.names.Name.{Name}

-- ---- lists of names

-- the line, where something fails
abbrev pub line_if : Bool → ℕ → List ℕ
line_if true line = line ∷ []
line_if false line = []

-- a name that is one of these texts
abbrev pub again : List (List ℕ) → Name → List ℕ
again texts name = line_if (list_any (bytes_eq name.text) texts) name.line

-- the names that stand before already: each that is one of these texts, or that an earlier one of the list has
abbrev pub repeated : List (List ℕ) → List Name → List ℕ
repeated texts [] = []
repeated texts (name ∷ names) = again texts name ++ repeated (texts ++ name.text ∷ []) names

abbrev pub texts_of : List Name → List (List ℕ)
texts_of names = map (λ name. name.text) names

-- a set has the texts of a list
abbrev pub Holds : {S : Type 0} → IndexSet (Bor (List ℕ)) S → List (List ℕ) → Type 0
Holds seen texts = (q : List ℕ) → list_any (λ k. bytes_eq q k.now) seen.keys ≡ list_any (bytes_eq q) texts

-- ---- definitions and impls

-- A trait or an impl: its type parameters, those of each of its methods, in whose scope its own are too, and the names of these
-- methods.
unfoldable pub double_methods : List Name → List (List Name) → List Name → List ℕ
double_methods params inner names = repeated [] params ++ flat_map (repeated (texts_of params)) inner ++ repeated [] names

-- a static has no type parameters
unfoldable pub double_in_definition : DefinitionForm → List ℕ
double_in_definition (definitions.Function f) = repeated [] f.type_params
double_in_definition (definitions.Closure c) = repeated [] c.type_params
double_in_definition (definitions.Struct s) = repeated [] s.type_params
double_in_definition (definitions.Enum e) = repeated [] e.type_params ++ repeated [] (map (λ v. v.name) e.variants)
double_in_definition (definitions.Trait t) = double_methods t.type_params (map (λ m. m.type_params) t.methods) (map (λ m. m.name) t.methods)
double_in_definition (definitions.Static s) = []
double_in_definition (definitions.Const c) = repeated [] c.type_params

-- what an impl with these type parameters gives
unfoldable pub double_in_impl : List Name → ImplForm → List ℕ
double_in_impl params (impls.Drop drop) = repeated [] params
double_in_impl params (impls.Trait t) = double_methods params (map (λ m. m.function.type_params) t.methods) (map (λ m. m.function.name) t.methods)

-- an item alone, without those that stand in it
unfoldable pub double_here : ItemForm → List ℕ
double_here (forms.Module name) = []
double_here (forms.Impl impl) = double_in_impl impl.type_params impl.form
double_here (forms.Definition definition) = double_in_definition definition.form

-- ---- items

-- what is defined has a name
unfoldable pub definition_name : DefinitionForm → Name
definition_name (definitions.Function f) = f.name
definition_name (definitions.Closure c) = c.name
definition_name (definitions.Struct s) = s.name
definition_name (definitions.Enum e) = e.name
definition_name (definitions.Trait t) = t.name
definition_name (definitions.Static s) = s.name
definition_name (definitions.Const c) = c.name

-- the name of an item, of which an impl has none
unfoldable pub form_name : ItemForm → Option Name
form_name (forms.Module name) = Some name
form_name (forms.Impl impl) = None
form_name (forms.Definition definition) = Some (definition_name definition.form)

abbrev pub item_name : Item → Option Name
item_name item = form_name (out-Item item).form

-- an item as its module has it: its name, and the names that stand before already inside it
pub record Member : Type 0 where
  pub name : Option Name
  pub inside : List ℕ

-- the items of one module: those of their names that stand before already, and what is inside each
unfoldable pub double_among : List Member → List ℕ
double_among members = repeated [] (filter_map (λ m. m.name) members) ++ flat_map (λ m. m.inside) members

unfoldable pub member_of : Item → Member
member_of = fold-Item Member (λ layer. record { name = form_name layer.form; inside = double_here layer.form ++ double_among layer.items })

abbrev pub double_in_items : List Item → List ℕ
double_in_items items = double_among (map member_of items)

-- the lines of all names in a text that stand before already
unfoldable pub doubled : List Crate → List ℕ
doubled crates = repeated [] (map (λ k. k.name) crates) ++ flat_map (λ k. double_in_items k.items) crates
