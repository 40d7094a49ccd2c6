-- An item by its parts, and what holds of all that stands in it.
use Rattle.std.proofs.Common.{◌≡◌, ℕ, List, [], ◌∷◌, ◌++◌, map, flat_map, ⊎_elim, refl, sym, ap, ◌∙◌, subst}
use Rattle.std.proofs.lemmas.List.Elements.{All-nil, All-cons, All-contains}
use Rattle.std.proofs.lemmas.List.Folds.{flat_map-map}
use Rattle.std.specs.List.{All, Contains}
use Rattle.mm_ast.specs.declared.items.Definition.{Definition}
use Rattle.mm_ast.specs.declared.items.Impl.{Impl}
use Rattle.mm_ast.specs.declared.items.Item.{Item}
use Rattle.mm_ast.specs.declared.items.Item.TheFolds.{ind-Item}
use Rattle.mm_ast.specs.declared.items.Item.TheOpen.{Item-F}
use Rattle.mm_ast.specs.declared.items.Item.TheViews.{roll-Item, out-roll-Item}
use Rattle.mm_ast.specs.declared.items.ItemForm.{ItemForm}
use Rattle.mm_ast.specs.declared.items.ItemForm.TheVariants as forms
use Rattle.mm_ast.specs.declared.names.Name.{Name}
use Rattle.mm_definitions.proofs.DefinitionLemmas.{module_placed, impl_placed, definition_placed}
use Rattle.mm_definitions.proofs.TreeLemmas.{item_fold-parts}
use Rattle.mm_definitions.specs.Paths.{path_in}
use Rattle.mm_definitions.specs.Placed.{Placed, alone, item_placed}
use Rattle.mm_definitions.specs.Trees.{item_line, form_of, items_in}
use Rattle.mm_mentions.specs.ItemMentions.{form_mentions, item_mentions, items_mentions}
use Rattle.mm_terms.proofs.ListLemmas.{Contains-cons_cases, Contains-from_flat_map, Contains-nil}
use Rattle.mm_load.specs.Modules.{form_modules, item_modules, items_modules}

-- ---- by its parts

pub item_mentions-parts : (krate : List ℕ) (item : Item) → item_mentions krate item ≡ form_mentions krate (item_line item) (form_of item) ++ items_mentions krate (items_in item)
unfolding item_mentions
item_mentions-parts krate item =
    item_fold-parts (λ line form inside. form_mentions krate line form ++ flat_map (λ mentions. mentions) inside) item
    ∙ ap (λ ms. form_mentions krate (item_line item) (form_of item) ++ ms) (flat_map-map (λ mentions. mentions) (item_mentions krate) (items_in item))

item_modules-parts : (item : Item) (prefix : List ℕ) → item_modules item prefix ≡ form_modules prefix (form_of item) (map item_modules (items_in item))
unfolding item_modules
item_modules-parts item prefix = ap {A = List ℕ → List (List ℕ)} (λ modules. modules prefix) (item_fold-parts (λ line form inside prefix. form_modules prefix form inside) item)

-- a module, and the modules in it
pub module_modules : (item : Item) (prefix : List ℕ) (name : Name) → form_of item ≡ forms.Module name → item_modules item prefix ≡ path_in prefix name.text ∷ items_modules (path_in prefix name.text) (items_in item)
unfolding form_modules
module_modules item prefix name is =
    item_modules-parts item prefix
    ∙ ap (λ form. form_modules prefix form (map item_modules (items_in item))) is
    ∙ ap (λ modules. path_in prefix name.text ∷ modules) (flat_map-map (λ modules. modules (path_in prefix name.text)) item_modules (items_in item))

-- no other item has modules
pub impl_modules : (item : Item) (prefix : List ℕ) (impl : Impl) → form_of item ≡ forms.Impl impl → item_modules item prefix ≡ []
unfolding form_modules
impl_modules item prefix impl is = item_modules-parts item prefix ∙ ap (λ form. form_modules prefix form (map item_modules (items_in item))) is

pub definition_modules : (item : Item) (prefix : List ℕ) (definition : Definition) → form_of item ≡ forms.Definition definition → item_modules item prefix ≡ []
unfolding form_modules
definition_modules item prefix definition is = item_modules-parts item prefix ∙ ap (λ form. form_modules prefix form (map item_modules (items_in item))) is

-- ---- induction

each_of : (P : Item → Type 0) (items : List ((item : Item) × P item)) → All P (map (λ e. e.0) items)
each_of P [] = All-nil P
each_of P (item ∷ items) = All-cons P item.0 (map (λ e. e.0) items) item.1 (each_of P items)

-- what holds of an item wherever it holds of each item right in it holds of every item
pub item_ind : (P : Item → Type 0) → ((item : Item) → All P (items_in item) → P item) → (item : Item) → P item
item_ind P step =
    ind-Item P (λ layer held are. step (roll-Item layer) (subst (All P) (sym (ap (λ (z : Item-F Item). z.items) (out-roll-Item layer))) (subst (λ (z : Item-F Item). All P z.items) are (each_of P held.items))))

abbrev pub IsNoModule : ItemForm → Type 0
IsNoModule form = (name : Name) → form ≡ forms.Module name → ⊥

-- What holds of each item that is no module, and of what stands in a module wherever it holds of it in an item of the module, holds of
-- all that stands in an item
module _ (P : Item → List ℕ → Placed → Type 0)
    (here : (item : Item) (prefix : List ℕ) → IsNoModule (form_of item) → P item prefix (record { prefix = prefix; form = form_of item }))
    (inside : (item : Item) (prefix : List ℕ) (name : Name) (inner : Item) (p : Placed)
    → form_of item ≡ forms.Module name → Contains (items_in item) inner → P inner (path_in prefix name.text) p → P item prefix p) where
  by_itself : (item : Item) (prefix : List ℕ) (p : Placed) → IsNoModule (form_of item) → Contains (alone prefix (form_of item)) p → P item prefix p
  by_itself item prefix p no_module has =
      ⊎_elim (λ same. subst (P item prefix) same (here item prefix no_module)) (λ later. absurd (Contains-nil p later))
      (Contains-cons_cases (record { prefix = prefix; form = form_of item }) [] p has)

  pub placed_ind : (item : Item) (prefix : List ℕ) (p : Placed) → Contains (item_placed item prefix) p → P item prefix p
  placed_ind = item_ind (λ item. (prefix : List ℕ) (p : Placed) → Contains (item_placed item prefix) p → P item prefix p) step
    where
      step : (item : Item) → All (λ inner. (prefix : List ℕ) (p : Placed) → Contains (item_placed inner prefix) p → P inner prefix p) (items_in item)
          → (prefix : List ℕ) (p : Placed) → Contains (item_placed item prefix) p → P item prefix p
      step item each prefix p has = by (form_of item) refl
        where
          by : (form : ItemForm) → form_of item ≡ form → P item prefix p
          by (forms.Module name) is =
              let from = Contains-from_flat_map (λ inner. item_placed inner (path_in prefix name.text)) (items_in item) p (subst (λ ps. Contains ps p) (module_placed item prefix name is) has) in
              inside item prefix name from.0 p is from.1
              (All-contains (λ inner. (prefix : List ℕ) (p : Placed) → Contains (item_placed inner prefix) p → P inner prefix p) (items_in item) from.0 each from.1 (path_in prefix name.text) p from.2)
          by (forms.Impl impl) is = by_itself item prefix p (λ name other. cc (sym is ∙ other)) (subst (λ ps. Contains ps p) (impl_placed item prefix impl is) has)
          by (forms.Definition definition) is = by_itself item prefix p (λ name other. cc (sym is ∙ other)) (subst (λ ps. Contains ps p) (definition_placed item prefix definition is) has)
