-- The functions of a crate, module by module: what is so of each, and of each path.
use Rattle.std.proofs.Common.{ℕ, List, [], sym, subst}
use Rattle.std.specs.Prelude.{All}
use Rattle.std.proofs.lemmas.List.Elements.{All-nil, All-cons}
use Rattle.mm_names.specs.Names.{IsName}
use Rattle.mm_terms.proofs.ListLemmas.{All-flat_map}
use Rattle.mm_ast.specs.declared.items.Crate.{Crate}
use Rattle.mm_ast.specs.declared.items.Item.{Item}
use Rattle.mm_load_plain.specs.WrittenItem.{Defined, path_in, functions_in, functions_of, name_of}
use Rattle.mm_definitions.specs.Trees.{items_in}
use Rattle.mm_load_plain.proofs.FormLemmas.{path_of, defined, module_functions, function_alone, named_module, named_function}
use Rattle.mm_load_plain.proofs.FormedLemmas.{IsFormedFunction, formed_function}
use Rattle.mm_load_plain.proofs.WrittenItems.{IsFine, of_crate}

module _ (Path : List ℕ → Type 0) (into : (prefix name : List ℕ) → Path prefix → IsName name → Path (path_in prefix name)) where
  -- the path is one of these, and the function is formed
  abbrev pub IsDefined : Defined → Type 0
  IsDefined d = Path d.path × IsFormedFunction d.function

  -- the functions of an item, in a module that has such a path
  abbrev AreDefined : Item → Type 0
  AreDefined item = (prefix : List ℕ) → Path prefix → All IsDefined (functions_in item prefix)

  pub defined_all : (krate : Crate) → IsFine krate → Path krate.name.text → All IsDefined (functions_of krate)
  unfolding functions_of
  defined_all krate fine path =
      let each = of_crate AreDefined
      (λ item name is named inside prefix path.
      subst (All IsDefined) (sym (module_functions item prefix name is))
      (All-flat_map IsDefined (λ one. functions_in one (path_of item prefix)) (items_in item)
      (λ k one within. inside k one within (path_of item prefix) (into prefix (name_of item).text path (named_module item name is named)))))
      (λ item is_pub f is none built function prefix path.
      subst (All IsDefined) (sym (function_alone item prefix is_pub f is none))
      (All-cons IsDefined (defined item prefix is_pub f) []
      (into prefix (name_of item).text path (named_function item is_pub f is function.named), formed_function f built function)
      (All-nil IsDefined)))
      krate fine in
      All-flat_map IsDefined (λ item. functions_in item krate.name.text) krate.items (λ k item within. each k item within krate.name.text path)
