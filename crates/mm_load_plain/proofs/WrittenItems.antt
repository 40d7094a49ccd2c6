-- What holds of each item of a tree that is written and built: an induction over the items.
use Rattle.std.proofs.Common.{◌≡◌, Bool, true, List, [], ◌∷◌, refl, get_or}
use Rattle.std.specs.Prelude.{All}
use Rattle.std.proofs.lemmas.List.Elements.{All-head}
use Rattle.std.proofs.lemmas.List.Sums.{AllPass-from_list_all}
use Rattle.mm_ast.specs.declared.items.Ast.{Ast}
use Rattle.mm_ast.specs.declared.items.Crate.{Crate}
use Rattle.mm_ast.specs.declared.items.DefinitionForm.{DefinitionForm}
use Rattle.mm_ast.specs.declared.items.DefinitionForm.TheVariants as definitions
use Rattle.mm_ast.specs.declared.items.Function.{Function}
use Rattle.mm_ast.specs.declared.items.Item.{Item}
use Rattle.mm_ast.specs.declared.items.Item.TheViews.{out-Item}
use Rattle.mm_ast.specs.declared.items.ItemForm.{ItemForm}
use Rattle.mm_ast.specs.declared.items.ItemForm.TheVariants as forms
use Rattle.mm_ast.specs.declared.names.Name.{Name}
use Rattle.mm_names.specs.Names.{IsName}
use Rattle.mm_built.specs.Built.{built_definition, built_form, built_item, built_crates, built_function, IsBuilt}
use Rattle.mm_ast.specs.Written.{IsWrittenFunction, IsWrittenDefinition, IsWrittenForm, IsWrittenItem, IsWrittenCrate, IsWritten}
use Rattle.mm_load_plain.specs.WrittenItem.{first_crate, crate_of}
use Rattle.mm_built.proofs.BuiltLemmas.{built_item-form, built_item-inside}
use Rattle.mm_load_plain.proofs.FormLemmas.{function_form}
use Rattle.mm_definitions.specs.Trees.{items_in}
use Rattle.mm_load_plain.proofs.ItemViews.{item_ind, written_item-form, written_item-inside}

-- a crate that is written, and of which all is built
pub record IsFine (krate : Crate) : Type 0 where
  pub written : IsWrittenCrate krate
  pub items : All (λ item. built_item item ≡ true) krate.items

fine_first : (crates : List Crate) → All IsWrittenCrate crates → built_crates crates ≡ true → IsFine (first_crate crates)
unfolding built_crates
fine_first [] each built = cc
fine_first (krate ∷ []) each built = record { written = All-head IsWrittenCrate krate [] each; items = AllPass-from_list_all built_item krate.items built }
fine_first (krate ∷ other ∷ others) each built = cc

-- a tree that is written and built has such a crate
pub fine_crate : (tree : Ast) → IsWritten tree → IsBuilt tree → IsFine (crate_of tree)
fine_crate tree is built = fine_first tree.crates is built

module _ (P : Item → Type 0)
    (of_module : (item : Item) (name : Name) → (out-Item item).form ≡ forms.Module name → IsName name.text → All P (items_in item) → P item)
    (of_function : (item : Item) (is_pub : Bool) (f : Function) → (out-Item item).form ≡ function_form is_pub f → items_in item ≡ [] → built_function f ≡ true → IsWrittenFunction f → P item) where
  abbrev Would : Item → Type 0
  Would item = built_item item ≡ true → IsWrittenItem item → P item

  of_definition : (item : Item) (is_pub : Bool) (form : DefinitionForm) → (out-Item item).form ≡ forms.Definition (record { is_pub = is_pub; form = form }) → items_in item ≡ [] → built_definition form ≡ true → IsWrittenDefinition form → P item
  of_definition item is_pub (definitions.Function f) is none built written = of_function item is_pub f is none built written
  of_definition item is_pub _ is none built written = cc

  of_form : (item : Item) (form : ItemForm) → (out-Item item).form ≡ form → All P (items_in item) → built_form form ≡ true → IsWrittenForm form (items_in item) → P item
  of_form item (forms.Module name) is each built written = of_module item name is written each
  of_form item (forms.Impl impl) is each built written = cc
  of_form item (forms.Definition definition) is each built written = of_definition item definition.is_pub definition.form is written.0 built written.1

  of_item : (item : Item) → All Would (items_in item) → Would item
  of_item item each built is =
      let inside = built_item-inside item built in
      let written = written_item-inside item is in
      of_form item (out-Item item).form refl (λ k d within. each k d within (inside k d within) (written k d within)) (built_item-form item built) (written_item-form item is)

  -- what holds of a module wherever it holds of each item in it, and of each function, holds of each item of the crate
  pub of_crate : (krate : Crate) → IsFine krate → All P krate.items
  of_crate krate fine =
      let written = fine.written.items in
      λ k d within. item_ind Would of_item (get_or krate.items k d) (fine.items k d within) (written k d within)
