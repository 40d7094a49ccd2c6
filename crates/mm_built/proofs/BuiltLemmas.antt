-- What is built, part by part.
use Rattle.std.proofs.Common.{◌≡◌, List, true, ◌&&◌, sym, ◌∙◌, ap}
use Rattle.std.specs.Prelude.{All}
use Rattle.std.specs.List.{list_all}
use Rattle.std.proofs.lemmas.Bool.{and_parts}
use Rattle.std.proofs.lemmas.List.Folds.{list_all-map}
use Rattle.std.proofs.lemmas.List.Sums.{AllPass-from_list_all}
use Rattle.mm_ast.specs.declared.items.Item.{Item}
use Rattle.mm_ast.specs.declared.types.Type as types
use Rattle.mm_definitions.specs.Trees.{head_of, children_of, form_of, items_in}
use Rattle.mm_definitions.proofs.TreeLemmas.{type_fold-parts, item_fold-parts}
use Rattle.mm_built.specs.Built.{built_head, built_type, built_types, built_form, built_item}

pub built_type_parts : (t : types.«Type») → built_type t ≡ (built_head (head_of t) && list_all built_type (children_of t))
unfolding built_type
built_type_parts t =
    type_fold-parts (λ line head below. built_head head && list_all (λ built. built) below) t
    ∙ ap (λ all. built_head (head_of t) && all) (list_all-map (λ built. built) built_type (children_of t))

pub built_item_parts : (item : Item) → built_item item ≡ (built_form (form_of item) && list_all built_item (items_in item))
unfolding built_item
built_item_parts item =
    item_fold-parts (λ line form inside. built_form form && list_all (λ built. built) inside) item
    ∙ ap (λ all. built_form (form_of item) && all) (list_all-map (λ built. built) built_item (items_in item))

pub built_item-form : (item : Item) → built_item item ≡ true → built_form (form_of item) ≡ true
built_item-form item built = (and_parts (built_form (form_of item)) (list_all built_item (items_in item)) (sym (built_item_parts item) ∙ built)).0

pub built_item-inside : (item : Item) → built_item item ≡ true → All (λ inner. built_item inner ≡ true) (items_in item)
built_item-inside item built = AllPass-from_list_all built_item (items_in item) (and_parts (built_form (form_of item)) (list_all built_item (items_in item)) (sym (built_item_parts item) ∙ built)).1

pub built_types-each : (ts : List types.«Type») → built_types ts ≡ true → All (λ t. built_type t ≡ true) ts
unfolding built_types
built_types-each ts built = AllPass-from_list_all built_type ts built
