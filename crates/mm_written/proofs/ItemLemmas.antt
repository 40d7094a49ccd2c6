-- An item by its form and the items in it.
use Rattle.std.proofs.Common.{◌≡◌, Bool, ◌&&◌, ◌∙◌}
use Rattle.std.specs.List.{list_all}
use Rattle.std.proofs.lemmas.List.Folds.{list_all-map}
use Rattle.mm_ast.specs.declared.items.Item.{Item}
use Rattle.mm_ast.specs.declared.items.Item.TheFolds.{fold_out-Item}
use Rattle.mm_ast.specs.declared.items.Item.TheViews.{out-Item}
use Rattle.mm_written.specs.Items.{written_form, written_item}
use Rattle.mm_written.specs.Lists.{few}
use Rattle.mm_written.proofs.ListLemmas.{few-map}

pub written_item_parts : (item : Item) → written_item item ≡ (written_form (out-Item item).form && few (out-Item item).items && list_all written_item (out-Item item).items)
unfolding written_item
written_item_parts item =
    fold_out-Item Bool (λ layer. written_form layer.form && few layer.items && list_all (λ written. written) layer.items) item
    ∙ (λ i. written_form (out-Item item).form && few-map (out-Item item).items written_item i && list_all-map (λ written. written) written_item (out-Item item).items i)
