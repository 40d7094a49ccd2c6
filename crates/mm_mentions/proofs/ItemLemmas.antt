-- What is mentioned by an item, by its form and the items in it.
use Rattle.std.proofs.Common.{◌≡◌, ℕ, List, ◌++◌, ◌∙◌, ap}
use Rattle.std.specs.List.{flat_map}
use Rattle.std.proofs.lemmas.List.Folds.{flat_map-map}
use Rattle.mm_ast.specs.declared.items.Item.{Item}
use Rattle.mm_mentions.specs.ItemMentions.{form_mentions, item_mentions, items_mentions}
use Rattle.mm_definitions.specs.Trees.{item_line, form_of, items_in}
use Rattle.mm_definitions.proofs.TreeLemmas.{item_fold-parts}

pub item_parts : (krate : List ℕ) (item : Item) → item_mentions krate item ≡ form_mentions krate (item_line item) (form_of item) ++ items_mentions krate (items_in item)
unfolding item_mentions
item_parts krate item =
    item_fold-parts (λ line form inside. form_mentions krate line form ++ flat_map (λ mentions. mentions) inside) item
    ∙ ap (λ ms. form_mentions krate (item_line item) (form_of item) ++ ms) (flat_map-map (λ mentions. mentions) (item_mentions krate) (items_in item))
