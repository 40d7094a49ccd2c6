-- The items of a text that keeps the rules have paths of which no two are the same.
use Rattle.std.proofs.Common.{◌≡◌, ℕ, List, [], ◌∷◌, ◌++◌, ◌&&◌, true, Some, refl, sym, ◌∙◌, ap, subst, append_assoc, codes, get_or}
use Rattle.std.specs.declared.option.Option.{Option}
use Rattle.std.specs.Prelude.{All}
use Rattle.std.specs.List.{flat_map, list_all}
use Rattle.std.specs.Option.{option_map}
use Rattle.std.proofs.lemmas.List.{append_cancel_left}
use Rattle.std.proofs.lemmas.List.Elements.{All-nil, All-cons, All-weaker}
use Rattle.std.proofs.lemmas.List.Sums.{AllPass-from_list_all}
use Rattle.mm_ast.specs.declared.items.Ast.{Ast}
use Rattle.mm_ast.specs.declared.items.Crate.{Crate}
use Rattle.mm_ast.specs.declared.items.Item.{Item}
use Rattle.mm_ast.specs.declared.items.ItemForm.{ItemForm}
use Rattle.mm_ast.specs.declared.items.ItemForm.TheVariants as forms
use Rattle.mm_ast.specs.declared.names.Name.{Name}
use Rattle.mm_definitions.specs.Paths.{path_in}
use Rattle.mm_definitions.specs.Placed.{Placed, alone, item_placed, items_placed, placed_in}
use Rattle.mm_definitions.specs.Trees.{form_of, items_in}
use Rattle.mm_definitions.proofs.DefinitionLemmas.{module_placed, definition_placed, impl_placed}
use Rattle.mm_names.specs.Runs.{is_name}
use Rattle.mm_names.proofs.RunLemmas.{mapped}
use Rattle.mm_resolve.specs.Doubles.{form_name, member_of, double_in_items, doubled}
use Rattle.mm_terms.proofs.ListLemmas.{All-flat_map, and_left, and_right}
use Rattle.mm_written.specs.Items.{written_item}
use Rattle.mm_written.specs.Lists.{few, some}
use Rattle.mm_written.specs.Names.{written_name}
use Rattle.mm_written.specs.Written.{written_crate, is_written}
use Rattle.mm_load.proofs.Apart.{IsOther, AreApart, IsAbove, all_apart}
use Rattle.mm_load.proofs.Colons.{one_first}
use Rattle.mm_load.proofs.ItemParts.{item_ind, member_parts, module_inside, form_written, items_written, form_named}
use Rattle.mm_load.proofs.NamesApart.{member_text, item_text, items_named_apart, crate_text, crates_named_apart}

-- the path of an item, where it has a name
abbrev pub placed_path : Placed → Option (List ℕ)
placed_path p = option_map (λ name. path_in p.prefix name.text) (form_name p.form)

-- ---- paths below a name

-- behind the first bytes a path has this name, up to a colon or its end
record IsUnder (before name path : List ℕ) : Type 0 where
  named : is_name name ≡ true
  rest : List ℕ
  is : path ++ 58 ∷ [] ≡ before ++ (name ++ 58 ∷ rest)

one_under : (before n m path : List ℕ) → IsUnder before n path → IsUnder before m path → n ≡ m
one_under before n m path over under =
    one_first n m over.rest under.rest over.named under.named (append_cancel_left before (n ++ 58 ∷ over.rest) (m ++ 58 ∷ under.rest) (sym over.is ∙ under.is))

under_itself : (prefix n : List ℕ) → is_name n ≡ true → IsUnder (prefix ++ codes "::") n (path_in prefix n)
under_itself prefix n named = record { named = named; rest = []; is = append_assoc (prefix ++ codes "::") n (58 ∷ []) }

-- what is below a name in a module is below the name of the module
under_module : (before n m path : List ℕ) → is_name n ≡ true → IsUnder ((before ++ n) ++ codes "::") m path → IsUnder before n path
under_module before n m path named under = record {
  named = named;
  rest = 58 ∷ (m ++ 58 ∷ under.rest);
  is =
      under.is
      ∙ append_assoc (before ++ n) (codes "::") (m ++ 58 ∷ under.rest)
      ∙ append_assoc before n (codes "::" ++ (m ++ 58 ∷ under.rest));
}

-- ---- items, module by module

-- an item with a path below the name
abbrev HasUnder : List ℕ → List ℕ → Placed → Type 0
HasUnder before n p = (path : List ℕ) → placed_path p ≡ Some path → IsUnder before n path

-- the items in an item have paths below its name, and they are apart where no name in it stands before already
abbrev ItemFacts : Item → Type 0
ItemFacts item = written_item item ≡ true → (prefix : List ℕ)
    → All (IsAbove item_text placed_path (IsUnder (prefix ++ codes "::")) item) (item_placed item prefix) × ((member_of item).inside ≡ [] → AreApart placed_path (item_placed item prefix))

-- the module whose path is these bytes and this name
module _ (before n : List ℕ) (named : is_name n ≡ true) (items : List Item) (written : list_all written_item items ≡ true) (facts : All ItemFacts items) where
  abbrev placed : Item → List Placed
  placed item = item_placed item (before ++ n)

  above : All (λ item. All (IsAbove item_text placed_path (IsUnder ((before ++ n) ++ codes "::")) item) (placed item)) items
  above k d within = (facts k d within (AllPass-from_list_all written_item items written k d within) (before ++ n)).0

  module_under : All (HasUnder before n) (items_placed (before ++ n) items)
  module_under =
      All-flat_map (HasUnder before n) placed items
      (λ k d within. All-weaker (IsAbove item_text placed_path (IsUnder ((before ++ n) ++ codes "::")) (get_or items k d)) (HasUnder before n)
      (λ p over path at. let m = over path at in under_module before n m.0 path named m.2) (placed (get_or items k d)) (above k d within))

  module_apart : double_in_items items ≡ [] → AreApart placed_path (items_placed (before ++ n) items)
  module_apart none =
      let names = items_named_apart items none in
      all_apart item_text placed_path (IsUnder ((before ++ n) ++ codes "::")) placed (one_under ((before ++ n) ++ codes "::")) items names.0 above
      (λ k d within. (facts k d within (AllPass-from_list_all written_item items written k d within) (before ++ n)).1 (names.1 k d within))

-- the name of an item by its form
named_by : (item : Item) (name : Name) → form_name (form_of item) ≡ Some name → item_text item ≡ Some name.text
named_by item name is = ap member_text (member_parts item) ∙ ap (option_map (λ n. n.text)) is

module _ (item : Item) (written : written_item item ≡ true) (prefix : List ℕ) where
  abbrev Above : Placed → Type 0
  Above = IsAbove item_text placed_path (IsUnder (prefix ++ codes "::")) item

  abbrev Facts : List Placed → Type 0
  Facts ps = All Above ps × ((member_of item).inside ≡ [] → AreApart placed_path ps)

  facts_alone : Facts (alone prefix (form_of item))
  facts_alone = (All-cons Above p [] above_itself (All-nil Above), λ none. (All-nil (IsOther placed_path p), tt))
    where
      p : Placed
      p = record { prefix = prefix; form = form_of item }

      above_itself : Above p
      above_itself path at =
          let name = mapped (λ name. path_in prefix name.text) (form_name (form_of item)) path at in
          (name.0.text, named_by item name.0 name.1, subst (IsUnder (prefix ++ codes "::") name.0.text) name.2 (under_itself prefix name.0.text (form_named (form_of item) name.0 (form_written item written) name.1)))

  facts_module : (name : Name) → form_of item ≡ forms.Module name → All ItemFacts (items_in item) → Facts (items_placed (path_in prefix name.text) (items_in item))
  unfolding form_name
  facts_module name is each = (
    All-weaker (HasUnder (prefix ++ codes "::") name.text) Above (λ p under path at. (name.text, named_by item name own, under path at))
        (items_placed (path_in prefix name.text) (items_in item))
        (module_under (prefix ++ codes "::") name.text named (items_in item) (items_written item written) each),
    λ none. module_apart (prefix ++ codes "::") name.text named (items_in item) (items_written item written) each (sym (module_inside item name is) ∙ none),
  )
    where
      own : form_name (form_of item) ≡ Some name
      own = ap form_name is

      named : is_name name.text ≡ true
      named = form_named (form_of item) name (form_written item written) own

  facts_of : (form : ItemForm) → form_of item ≡ form → All ItemFacts (items_in item) → Facts (item_placed item prefix)
  facts_of (forms.Module name) is each = subst Facts (sym (module_placed item prefix name is)) (facts_module name is each)
  facts_of (forms.Impl impl) is each = subst Facts (sym (impl_placed item prefix impl is)) facts_alone
  facts_of (forms.Definition definition) is each = subst Facts (sym (definition_placed item prefix definition is)) facts_alone

item_facts : (item : Item) → ItemFacts item
item_facts = item_ind ItemFacts (λ item each written prefix. facts_of item written prefix (form_of item) refl each)

-- ---- crates

module _ (krate : Crate) (written : written_crate krate ≡ true) where
  crate_named : is_name krate.name.text ≡ true
  unfolding written_crate written_name
  crate_named = and_left (is_name krate.name.text) (few krate.items && list_all written_item krate.items) written

  crate_items : list_all written_item krate.items ≡ true
  unfolding written_crate
  crate_items = and_right (few krate.items) (list_all written_item krate.items) (and_right (written_name krate.name) (few krate.items && list_all written_item krate.items) written)

  crate_above : All (IsAbove crate_text placed_path (IsUnder []) krate) (placed_in krate)
  unfolding placed_in
  crate_above =
      All-weaker (HasUnder [] krate.name.text) (IsAbove crate_text placed_path (IsUnder []) krate) (λ p under path at. (krate.name.text, refl, under path at))
      (items_placed krate.name.text krate.items)
      (module_under [] krate.name.text crate_named krate.items crate_items (λ k d within. item_facts (get_or krate.items k d)))

  crate_apart : double_in_items krate.items ≡ [] → AreApart placed_path (placed_in krate)
  unfolding placed_in
  crate_apart = module_apart [] krate.name.text crate_named krate.items crate_items (λ k d within. item_facts (get_or krate.items k d))

pub paths_apart : (tree : Ast) → is_written tree ≡ true → doubled tree.crates ≡ [] → AreApart placed_path (flat_map placed_in tree.crates)
unfolding is_written
paths_apart tree written none =
    let names = crates_named_apart tree.crates none in
    let each = AllPass-from_list_all written_crate tree.crates (and_right (few tree.crates) (list_all written_crate tree.crates) (and_right (some tree.crates) (few tree.crates && list_all written_crate tree.crates) written)) in
    all_apart crate_text placed_path (IsUnder []) placed_in (one_under []) tree.crates names.0
    (λ k d within. crate_above (get_or tree.crates k d) (each k d within))
    (λ k d within. crate_apart (get_or tree.crates k d) (each k d within) (names.1 k d within))
