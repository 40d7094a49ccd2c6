-- What the items of a crate have: none is a module, what each mentions is mentioned by the crate, each is written, and each stands in a
-- module of the crate.
use Rattle.std.proofs.Common.{◌≡◌, ℕ, zero, suc, ◌<◌, ◌⊎◌, inl, inr, ⊎_elim, List, ◌∷◌, ◌++◌, codes, IsUtf8, IsAscii, true, ◌&&◌, refl, sym, ◌∙◌, subst, lit<}
use Rattle.std.proofs.lemmas.List.Elements.{All-nil, All-cons, All-contains, Contains-append_left, Contains-append_right}
use Rattle.std.proofs.lemmas.List.Sums.{AllPass-from_list_all}
use Rattle.std.proofs.lemmas.Str.{IsUtf8-append, IsUtf8-from_ascii}
use Rattle.std.specs.List.{All, Contains, list_all}
use Rattle.mm_ast.specs.declared.items.Ast.{Ast}
use Rattle.mm_ast.specs.declared.items.Crate.{Crate}
use Rattle.mm_ast.specs.declared.items.Definition.{Definition}
use Rattle.mm_ast.specs.declared.items.Impl.{Impl}
use Rattle.mm_ast.specs.declared.items.Item.{Item}
use Rattle.mm_ast.specs.declared.items.ItemForm.{ItemForm}
use Rattle.mm_ast.specs.declared.items.ItemForm.TheVariants as forms
use Rattle.mm_ast.specs.declared.names.Name.{Name}
use Rattle.mm_definitions.specs.Paths.{path_in}
use Rattle.mm_definitions.specs.Placed.{Placed, placed_in}
use Rattle.mm_definitions.specs.Trees.{item_line, form_of, items_in}
use Rattle.mm_mentions.specs.declared.mention.Mention.{Mention}
use Rattle.mm_mentions.specs.ItemMentions.{form_mentions, item_mentions, items_mentions, mentions_in}
use Rattle.mm_names.proofs.RunLemmas.{is_name-sound}
use Rattle.mm_terms.proofs.ListLemmas.{and_left, and_right, All-flat_map, All-from_contains, Contains-flat_map, Contains-here, Contains-later}
use Rattle.mm_written.proofs.ItemLemmas.{written_item_parts}
use Rattle.mm_written.specs.Items.{written_form, written_item}
use Rattle.mm_written.specs.Lists.{few, some}
use Rattle.mm_written.specs.Names.{written_name}
use Rattle.mm_written.specs.Written.{written_crate, is_written}
use Rattle.mm_load.specs.Modules.{item_modules, items_modules, modules_in}
use Rattle.mm_load.proofs.ItemWalk.{item_mentions-parts, module_modules, impl_modules, definition_modules, item_ind, IsNoModule, placed_ind}
use Rattle.mm_load.proofs.Standing.{in_item}

-- ---- no modules

pub none_is_module : (krate : Crate) (p : Placed) → Contains (placed_in krate) p → IsNoModule p.form
none_is_module krate p has =
    let at = in_item krate p has in
    placed_ind (λ item prefix p. IsNoModule p.form) (λ item prefix none. none) (λ item prefix name inner p is within none. none) at.0 krate.name.text p at.2

-- ---- mentions

-- what the item mentions, at some line, an item mentions in which it stands
abbrev MentionedIn : List ℕ → Item → List ℕ → Placed → Type 0
MentionedIn krate item prefix p = (line : ℕ) × ((m : Mention) → Contains (form_mentions krate line p.form) m → Contains (item_mentions krate item) m)

module _ (krate : List ℕ) where
  by_itself : (item : Item) (prefix : List ℕ) → IsNoModule (form_of item) → MentionedIn krate item prefix (record { prefix = prefix; form = form_of item })
  by_itself item prefix none = (
    item_line item,
    λ m has. subst (λ ms. Contains ms m) (sym (item_mentions-parts krate item))
        (Contains-append_left (form_mentions krate (item_line item) (form_of item)) (items_mentions krate (items_in item)) m has),
  )

  inside : (item : Item) (prefix : List ℕ) (name : Name) (inner : Item) (p : Placed)
      → form_of item ≡ forms.Module name → Contains (items_in item) inner → MentionedIn krate inner (path_in prefix name.text) p → MentionedIn krate item prefix p
  inside item prefix name inner p is within from = (
    from.0,
    λ m has. subst (λ ms. Contains ms m) (sym (item_mentions-parts krate item))
        (Contains-append_right (form_mentions krate (item_line item) (form_of item)) (items_mentions krate (items_in item)) m
        (Contains-flat_map (item_mentions krate) (items_in item) inner m within (from.1 m has))),
  )

pub among_mentions : (krate : Crate) (p : Placed) → Contains (placed_in krate) p → (line : ℕ) × ((m : Mention) → Contains (form_mentions krate.name.text line p.form) m → Contains (mentions_in krate) m)
unfolding mentions_in
among_mentions krate p has =
    let at = in_item krate p has in
    let from = placed_ind (MentionedIn krate.name.text) (by_itself krate.name.text) (inside krate.name.text) at.0 krate.name.text p at.2 in
    (from.0, λ m mentioned. Contains-flat_map (item_mentions krate.name.text) krate.items at.0 m at.1 (from.1 m mentioned))

-- ---- written

pub crate_written : (tree : Ast) (krate : Crate) → is_written tree ≡ true → Contains tree.crates krate → written_crate krate ≡ true
unfolding is_written
crate_written tree krate written has =
    All-contains (λ k. written_crate k ≡ true) tree.crates krate (AllPass-from_list_all written_crate tree.crates (and_right (few tree.crates) (list_all written_crate tree.crates) (and_right (some tree.crates) (few tree.crates && list_all written_crate tree.crates) written))) has

module _ (krate : Crate) (written : written_crate krate ≡ true) where
  name_written : written_name krate.name ≡ true
  unfolding written_crate
  name_written = and_left (written_name krate.name) (few krate.items && list_all written_item krate.items) written

  items_written : (item : Item) → Contains krate.items item → written_item item ≡ true
  unfolding written_crate
  items_written item has =
      let each = and_right (few krate.items) (list_all written_item krate.items) (and_right (written_name krate.name) (few krate.items && list_all written_item krate.items) written) in
      All-contains (λ i. written_item i ≡ true) krate.items item (AllPass-from_list_all written_item krate.items each) has

module _ (item : Item) (written : written_item item ≡ true) where
  form_written : written_form (form_of item) ≡ true
  form_written =
      and_left (written_form (form_of item)) (few (items_in item))
      (and_left (written_form (form_of item) && few (items_in item)) (list_all written_item (items_in item)) (sym (written_item_parts item) ∙ written))

  inner_written : (inner : Item) → Contains (items_in item) inner → written_item inner ≡ true
  inner_written inner has =
      let each = and_right (written_form (form_of item) && few (items_in item)) (list_all written_item (items_in item)) (sym (written_item_parts item) ∙ written) in
      All-contains (λ i. written_item i ≡ true) (items_in item) inner (AllPass-from_list_all written_item (items_in item) each) has

pub each_written : (krate : Crate) → written_crate krate ≡ true → (p : Placed) → Contains (placed_in krate) p → written_form p.form ≡ true
each_written krate written p has =
    let at = in_item krate p has in
    placed_ind (λ item prefix p. written_item item ≡ true → written_form p.form ≡ true)
    (λ item prefix none is. form_written item is)
    (λ item prefix name inner p of within from is. from (inner_written item is inner within))
    at.0 krate.name.text p at.2 (items_written krate written at.0 at.1)

-- ---- modules

-- it stands in the module where the item stands, or in one within the item
abbrev PrefixIn : Item → List ℕ → Placed → Type 0
PrefixIn item prefix p = (p.prefix ≡ prefix) ⊎ Contains (item_modules item prefix) p.prefix

first_or_within : (path : List ℕ) (items : List Item) (inner : Item) (p : Placed) → Contains items inner → PrefixIn inner path p → Contains (path ∷ items_modules path items) p.prefix
first_or_within path items inner p within from =
    ⊎_elim
    (λ same. subst (Contains (path ∷ items_modules path items)) (sym same) (Contains-here path (items_modules path items)))
    (λ deeper. Contains-later path (items_modules path items) p.prefix (Contains-flat_map (λ i. item_modules i path) items inner p.prefix within deeper))
    from

pub prefix_in : (krate : Crate) (p : Placed) → Contains (placed_in krate) p → Contains (modules_in krate) p.prefix
unfolding modules_in
prefix_in krate p has =
    let at = in_item krate p has in
    first_or_within krate.name.text krate.items at.0 p at.1
    (placed_ind PrefixIn (λ item prefix none. inl refl)
    (λ item prefix name inner p is within from.
    inr (subst (λ ms. Contains ms p.prefix) (sym (module_modules item prefix name is)) (first_or_within (path_in prefix name.text) (items_in item) inner p within from)))
    at.0 krate.name.text p at.2)

-- ---- texts

colons : IsAscii (codes "::")
colons zero = lit< tt
colons (suc zero) = lit< tt
colons (suc (suc i)) = lit< tt

path_utf8 : (prefix name : List ℕ) → IsUtf8 prefix → IsUtf8 name → IsUtf8 (path_in prefix name)
path_utf8 prefix name is_prefix is_name = IsUtf8-append (prefix ++ codes "::") name (IsUtf8-append prefix (codes "::") is_prefix (IsUtf8-from_ascii (codes "::") colons)) is_name

name_utf8 : (name : Name) → written_name name ≡ true → IsUtf8 name.text
unfolding written_name
name_utf8 name written = (is_name-sound name.text written).utf8

module_written : (name : Name) → written_form (forms.Module name) ≡ true → written_name name ≡ true
unfolding written_form
module_written name written = written

item_modules_utf8 : (item : Item) (prefix : List ℕ) → IsUtf8 prefix → written_item item ≡ true → All IsUtf8 (item_modules item prefix)
item_modules_utf8 = item_ind (λ item. (prefix : List ℕ) → IsUtf8 prefix → written_item item ≡ true → All IsUtf8 (item_modules item prefix)) step
  where
    step : (item : Item) → All (λ inner. (prefix : List ℕ) → IsUtf8 prefix → written_item inner ≡ true → All IsUtf8 (item_modules inner prefix)) (items_in item)
        → (prefix : List ℕ) → IsUtf8 prefix → written_item item ≡ true → All IsUtf8 (item_modules item prefix)
    step item each prefix utf8 written = by (form_of item) refl
      where
        by : (form : ItemForm) → form_of item ≡ form → All IsUtf8 (item_modules item prefix)
        by (forms.Module name) is =
            let path = path_in prefix name.text in
            let named = name_utf8 name (module_written name (subst (λ form. written_form form ≡ true) is (form_written item written))) in
            let is_path : IsUtf8 (path_in prefix name.text) = path_utf8 prefix name.text utf8 named in
            subst (All IsUtf8) (sym (module_modules item prefix name is))
            (All-cons IsUtf8 path (items_modules path (items_in item)) is_path
            (All-flat_map IsUtf8 (λ i. item_modules i path) (items_in item)
            (All-from_contains (λ i. All IsUtf8 (item_modules i path)) (items_in item)
            (λ inner has. All-contains (λ inner. (prefix : List ℕ) → IsUtf8 prefix → written_item inner ≡ true → All IsUtf8 (item_modules inner prefix)) (items_in item) inner each has path is_path (inner_written item written inner has)))))
        by (forms.Impl impl) is = subst (All IsUtf8) (sym (impl_modules item prefix impl is)) (All-nil IsUtf8)
        by (forms.Definition definition) is = subst (All IsUtf8) (sym (definition_modules item prefix definition is)) (All-nil IsUtf8)

pub crate_modules_utf8 : (krate : Crate) → written_crate krate ≡ true → All IsUtf8 (modules_in krate)
unfolding modules_in
crate_modules_utf8 krate written =
    let named = name_utf8 krate.name (name_written krate written) in
    All-cons IsUtf8 krate.name.text (items_modules krate.name.text krate.items) named
    (All-flat_map IsUtf8 (λ i. item_modules i krate.name.text) krate.items
    (All-from_contains (λ i. All IsUtf8 (item_modules i krate.name.text)) krate.items (λ item has. item_modules_utf8 item krate.name.text named (items_written krate written item has))))
