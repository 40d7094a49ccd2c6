-- Whether `Self` stands in a type, by its parts; and the items that stand in an item, by its form.
use Rattle.std.proofs.Common.{◌≡◌, ℕ, List, map, ◌||◌, ◌∙◌, ap, sym}
use Rattle.std.specs.List.{list_any}
use Rattle.std.proofs.lemmas.List.Folds.{flat_map-map}
use Rattle.mm_ast.specs.declared.items.Item.{Item}
use Rattle.mm_ast.specs.declared.items.ItemForm.TheVariants as forms
use Rattle.mm_ast.specs.declared.items.Definition.{Definition}
use Rattle.mm_ast.specs.declared.items.Impl.{Impl}
use Rattle.mm_ast.specs.declared.names.Name.{Name}
use Rattle.mm_ast.specs.declared.types.Type as types
use Rattle.mm_definitions.specs.DynCompatible.{is_self_head, has_self}
use Rattle.mm_definitions.specs.Paths.{path_in}
use Rattle.mm_definitions.specs.Placed.{Placed, alone, form_placed, item_placed, items_placed}
use Rattle.mm_definitions.specs.Trees.{head_of, children_of, form_of, items_in}
use Rattle.mm_definitions.proofs.TreeLemmas.{type_fold-parts, item_fold-parts, list_any-map}

-- the head, or a child
pub has_self_parts : (t : types.«Type») → has_self t ≡ (is_self_head (head_of t) || list_any has_self (children_of t))
unfolding has_self
has_self_parts t =
    type_fold-parts (λ line head below. is_self_head head || list_any (λ has. has) below) t
    ∙ ap (λ b. is_self_head (head_of t) || b) (list_any-map (λ has. has) has_self (children_of t))

item_placed-parts : (item : Item) (prefix : List ℕ) → item_placed item prefix ≡ form_placed prefix (form_of item) (map item_placed (items_in item))
unfolding item_placed
item_placed-parts item prefix = ap {A = List ℕ → List Placed} (λ placed. placed prefix) (item_fold-parts (λ line form inside prefix. form_placed prefix form inside) item)

pub module_placed : (item : Item) (prefix : List ℕ) (name : Name) → form_of item ≡ forms.Module name → item_placed item prefix ≡ items_placed (path_in prefix name.text) (items_in item)
unfolding form_placed
module_placed item prefix name is =
    item_placed-parts item prefix
    ∙ ap (λ form. form_placed prefix form (map item_placed (items_in item))) is
    ∙ flat_map-map (λ placed. placed (path_in prefix name.text)) item_placed (items_in item)

pub definition_placed : (item : Item) (prefix : List ℕ) (definition : Definition) → form_of item ≡ forms.Definition definition → item_placed item prefix ≡ alone prefix (form_of item)
unfolding form_placed
definition_placed item prefix definition is =
    item_placed-parts item prefix ∙ ap (λ form. form_placed prefix form (map item_placed (items_in item))) is ∙ ap (alone prefix) (sym is)

pub impl_placed : (item : Item) (prefix : List ℕ) (impl : Impl) → form_of item ≡ forms.Impl impl → item_placed item prefix ≡ alone prefix (form_of item)
unfolding form_placed
impl_placed item prefix impl is =
    item_placed-parts item prefix ∙ ap (λ form. form_placed prefix form (map item_placed (items_in item))) is ∙ ap (alone prefix) (sym is)
