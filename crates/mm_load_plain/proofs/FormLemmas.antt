-- The functions of an item, and what is inside it, by its form.
use Rattle.std.proofs.Common.{◌≡◌, Bool, List, [], ◌∷◌, ◌++◌, map, sym, ◌∙◌, ap, subst, ℕ}
use Rattle.std.specs.List.{flat_map}
use Rattle.mm_ast.specs.declared.items.DefinitionForm.TheVariants as definitions
use Rattle.mm_ast.specs.declared.items.Function.{Function}
use Rattle.mm_ast.specs.declared.items.Item.{Item}
use Rattle.mm_ast.specs.declared.items.Item.TheViews.{out-Item}
use Rattle.mm_ast.specs.declared.items.ItemForm.{ItemForm}
use Rattle.mm_ast.specs.declared.items.ItemForm.TheVariants as forms
use Rattle.mm_ast.specs.declared.names.Name.{Name}
use Rattle.mm_names.specs.Names.{IsName}
use Rattle.mm_load_plain.specs.Rules.{repeated_in, member_of, double_among}
use Rattle.mm_load_plain.specs.WrittenItem.{Defined, definition_name, form_name, path_in, defined_by, functions_in, name_of}
use Rattle.mm_definitions.specs.Trees.{items_in}
use Rattle.mm_load_plain.proofs.ItemLemmas.{functions_in-parts, member_of-parts}

-- the form of a function
abbrev pub function_form : Bool → Function → ItemForm
function_form is_pub f = forms.Definition (record { is_pub = is_pub; form = definitions.Function f })

-- the name of a module, and of a function
pub named_module : (item : Item) (name : Name) → (out-Item item).form ≡ forms.Module name → IsName name.text → IsName (name_of item).text
unfolding form_name
named_module item name is named = subst (λ form. IsName (form_name form).text) (sym is) named

pub named_function : (item : Item) (is_pub : Bool) (f : Function) → (out-Item item).form ≡ function_form is_pub f → IsName f.name.text → IsName (name_of item).text
unfolding form_name definition_name
named_function item is_pub f is named = subst (λ form. IsName (form_name form).text) (sym is) named

module _ (item : Item) (prefix : List ℕ) where
  abbrev pub path_of : List ℕ
  path_of = path_in prefix (name_of item).text

  -- a function alone
  abbrev pub defined : Bool → Function → Defined
  defined is_pub f = record { path = path_of; line = (out-Item item).line; is_pub = is_pub; function = f }

  inner : List Item → List Defined
  inner items = flat_map (λ one. functions_in one path_of) items

  -- a module has the functions of its items
  pub module_functions : (name : Name) → (out-Item item).form ≡ forms.Module name → functions_in item prefix ≡ flat_map (λ one. functions_in one path_of) (items_in item)
  unfolding inner
  module_functions name is = functions_in-parts item prefix ∙ ap (λ form. defined_by path_of (out-Item item).line form ++ inner (items_in item)) is

  pub function_alone : (is_pub : Bool) (f : Function) → (out-Item item).form ≡ function_form is_pub f → items_in item ≡ [] → functions_in item prefix ≡ defined is_pub f ∷ []
  unfolding inner
  function_alone is_pub f is none =
      functions_in-parts item prefix
      ∙ ap (λ form. defined_by path_of (out-Item item).line form ++ inner (items_in item)) is
      ∙ ap (λ items. defined is_pub f ∷ inner items) none

-- inside a module are its items
pub module_inside : (item : Item) (name : Name) → (out-Item item).form ≡ forms.Module name → (member_of item).inside ≡ double_among (map member_of (items_in item))
unfolding repeated_in
module_inside item name is = ap (λ m. m.inside) (member_of-parts item) ∙ ap (λ form. repeated_in form ++ double_among (map member_of (items_in item))) is
