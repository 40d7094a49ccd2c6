use Rattle.std.proofs.Common.{◌++◌, sym, ◌∙◌, ap}
use Rattle.mm_mentions.specs.ItemMentions.{form_mentions, items_mentions}
use Rattle.mm_definitions.specs.Trees.{item_line, form_of}
use Rattle.mm_mentions.proofs.Followed.{followed}
use Rattle.mm_mentions.proofs.ItemLemmas.{item_parts}
use Rattle.mm_mentions.proofs.items.+items.Goals as goal

pub mention_item-returns : goal.mention_item-returns
mention_item-returns t c =
    let item = c.args.item.now in
    let krate = c.args.krate.now in
    let form = form_mentions krate (item_line item) (form_of item) in
    followed _ _ _ _ form (items_mentions krate c.as_slice.result.now) _ c.in_ok-mention_form.ensures (item_parts krate item ∙ ap (λ items. form ++ items_mentions krate items) (sym c.as_slice.ensures)) c.mention_items.ensures
