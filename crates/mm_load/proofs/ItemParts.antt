-- An item by its form and the items in it: what holds of all items by induction, its names that stand before already, and its own name.
use Rattle.std.proofs.Common.{◌≡◌, List, [], ◌∷◌, ◌++◌, ◌&&◌, map, true, Some, sym, ap, ◌∙◌, subst}
use Rattle.std.specs.Prelude.{All}
use Rattle.std.specs.List.{list_all}
use Rattle.std.proofs.lemmas.List.Elements.{All-nil, All-cons}
use Rattle.std.proofs.lemmas.Option.{same_Some}
use Rattle.mm_ast.specs.declared.items.DefinitionForm.{DefinitionForm}
use Rattle.mm_ast.specs.declared.items.DefinitionForm.TheVariants as definitions
use Rattle.mm_ast.specs.declared.items.Item.{Item}
use Rattle.mm_ast.specs.declared.items.Item.TheFolds.{fold_out-Item, ind-Item}
use Rattle.mm_ast.specs.declared.items.Item.TheOpen.{Item-F}
use Rattle.mm_ast.specs.declared.items.Item.TheViews.{roll-Item, out-roll-Item}
use Rattle.mm_ast.specs.declared.items.ItemForm.{ItemForm}
use Rattle.mm_ast.specs.declared.items.ItemForm.TheVariants as forms
use Rattle.mm_ast.specs.declared.names.Name.{Name}
use Rattle.mm_definitions.specs.Trees.{form_of, items_in}
use Rattle.mm_names.specs.Runs.{is_name}
use Rattle.mm_resolve.specs.Doubles.{definition_name, form_name, double_here, double_among, double_in_items, Member, member_of}
use Rattle.mm_terms.proofs.ListLemmas.{and_left, and_right}
use Rattle.mm_written.specs.Items.{written_function, written_closure, written_struct, written_enum, written_trait, written_static, written_const, written_definition, written_form, written_item}
use Rattle.mm_written.specs.Lists.{few}
use Rattle.mm_written.specs.Names.{written_name}
use Rattle.mm_written.proofs.ItemLemmas.{written_item_parts}

-- ---- induction

each_of : (P : Item → Type 0) (items : List ((item : Item) × P item)) → All P (map (λ e. e.0) items)
each_of P [] = All-nil P
each_of P (item ∷ items) = All-cons P item.0 (map (λ e. e.0) items) item.1 (each_of P items)

-- what holds of an item wherever it holds of each item in it holds of every item
pub item_ind : (P : Item → Type 0) → ((item : Item) → All P (items_in item) → P item) → (item : Item) → P item
item_ind P step =
    ind-Item P
    (λ layer held are. step (roll-Item layer)
    (subst (All P) (sym (ap (λ (z : Item-F Item). z.items) (out-roll-Item layer))) (subst (λ (z : Item-F Item). All P z.items) are (each_of P held.items))))

-- ---- what its module has of it

pub member_parts : (item : Item) → member_of item ≡ record { name = form_name (form_of item); inside = double_here (form_of item) ++ double_in_items (items_in item) }
unfolding member_of
member_parts item = fold_out-Item Member (λ layer. record { name = form_name layer.form; inside = double_here layer.form ++ double_among layer.items }) item

-- in a module are its items
pub module_inside : (item : Item) (name : Name) → form_of item ≡ forms.Module name → (member_of item).inside ≡ double_in_items (items_in item)
unfolding double_here
module_inside item name is = ap (λ m. m.inside) (member_parts item) ∙ ap (λ form. double_here form ++ double_in_items (items_in item)) is

-- ---- what is written

module _ (item : Item) (written : written_item item ≡ true) where
  parts : (written_form (form_of item) && few (items_in item) && list_all written_item (items_in item)) ≡ true
  parts = sym (written_item_parts item) ∙ written

  pub form_written : written_form (form_of item) ≡ true
  form_written = and_left (written_form (form_of item)) (few (items_in item)) (and_left (written_form (form_of item) && few (items_in item)) (list_all written_item (items_in item)) parts)

  pub items_written : list_all written_item (items_in item) ≡ true
  items_written = and_right (written_form (form_of item) && few (items_in item)) (list_all written_item (items_in item)) parts

definition_named : (definition : DefinitionForm) → written_definition definition ≡ true → is_name (definition_name definition).text ≡ true
unfolding definition_name written_definition written_function written_closure written_struct written_enum written_trait written_static written_const written_name
definition_named (definitions.Function f) is = and_left _ _ (and_left _ _ (and_left _ _ (and_left _ _ is)))
definition_named (definitions.Closure c) is = and_left _ _ (and_left _ _ (and_left _ _ (and_left _ _ (and_left _ _ is))))
definition_named (definitions.Struct s) is = and_left _ _ (and_left _ _ is)
definition_named (definitions.Enum e) is = and_left _ _ (and_left _ _ is)
definition_named (definitions.Trait t) is = and_left _ _ (and_left _ _ is)
definition_named (definitions.Static s) is = and_left _ _ (and_left _ _ is)
definition_named (definitions.Const c) is = and_left _ _ (and_left _ _ (and_left _ _ is))

-- the name of an item is a name
pub form_named : (form : ItemForm) (name : Name) → written_form form ≡ true → form_name form ≡ Some name → is_name name.text ≡ true
unfolding form_name written_form written_name
form_named (forms.Module own) name written is = subst (λ n. is_name n.text ≡ true) (same_Some own name is) written
form_named (forms.Impl impl) name written is = absurd (cc is)
form_named (forms.Definition definition) name written is =
    subst (λ n. is_name n.text ≡ true) (same_Some (definition_name definition.form) name is) (definition_named definition.form written)
