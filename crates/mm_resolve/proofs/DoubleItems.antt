-- Names of items that stand before already.
use Rattle.std.proofs.Common.{◌≡◌, ℕ, ◌+◌, ◌<◌, List, [], ◌∷◌, ◌++◌, length, map, take, get_or, refl, sym, ◌∙◌, ap}
use Rattle.std.proofs.lemmas.List.{append_assoc, map-append, take_more}
use Rattle.std.proofs.lemmas.List.Elements.{filter_map-append}
use Rattle.std.proofs.lemmas.List.Folds.{flat_map-map}
use Rattle.std.specs.List.{flat_map, filter_map, cons_option}
use Rattle.mm_ast.specs.declared.items.Item.{Item}
use Rattle.mm_ast.specs.declared.items.Item.TheFolds.{fold_out-Item}
use Rattle.mm_ast.specs.declared.items.Item.TheViews.{out-Item}
use Rattle.mm_resolve.specs.Doubles.{repeated, texts_of, form_name, item_name, double_here, double_among, Member, member_of, double_in_items}
use Rattle.mm_resolve.proofs.DoubleLemmas.{repeated-append}

-- after one more item
module _ (items : List Item) (i : ℕ) (item : Item) (within : i < length items) (at : item ≡ get_or items i item) where
  names_more : filter_map item_name (take (i + 1) items) ≡ filter_map item_name (take i items) ++ filter_map item_name (item ∷ [])
  names_more =
      ap (filter_map item_name) (take_more items i item within ∙ ap (λ y. take i items ++ y ∷ []) (sym at))
      ∙ filter_map-append item_name (take i items) (item ∷ [])

  pub item_repeated : (first old new : List ℕ) → old ≡ first ++ repeated [] (filter_map item_name (take i items)) → new ≡ old ++ repeated (texts_of (filter_map item_name (take i items))) (filter_map item_name (item ∷ [])) → new ≡ first ++ repeated [] (filter_map item_name (take (i + 1) items))
  item_repeated first old new so_far added =
      let names = filter_map item_name (take i items) in
      let more = filter_map item_name (item ∷ []) in
      added
      ∙ ap (λ lines. lines ++ repeated (texts_of names) more) so_far
      ∙ append_assoc first (repeated [] names) (repeated (texts_of names) more)
      ∙ ap (λ lines. first ++ lines) (sym (repeated-append [] names more))
      ∙ ap (λ ns. first ++ repeated [] ns) (sym names_more)

  pub item_texts : texts_of (filter_map item_name (take i items)) ++ texts_of (filter_map item_name (item ∷ [])) ≡ texts_of (filter_map item_name (take (i + 1) items))
  item_texts = sym (map-append (λ n. n.text) (filter_map item_name (take i items)) (filter_map item_name (item ∷ []))) ∙ ap texts_of (sym names_more)

member_parts : (item : Item) → member_of item ≡ record { name = item_name item; inside = double_here (out-Item item).form ++ double_in_items (out-Item item).items }
unfolding member_of
member_parts item = fold_out-Item Member (λ layer. record { name = form_name layer.form; inside = double_here layer.form ++ double_among layer.items }) item

member_names : (items : List Item) → filter_map (λ m. m.name) (map member_of items) ≡ filter_map item_name items
member_names [] = refl
member_names (item ∷ items) =
    ap (λ m. cons_option m.name (filter_map (λ m. m.name) (map member_of items))) (member_parts item)
    ∙ ap (cons_option (item_name item)) (member_names items)

-- what is added for the items of one module
pub in_items : (items : List Item) (first then : List ℕ) → then ≡ first ++ repeated [] (filter_map item_name items) → then ++ flat_map (λ item. (member_of item).inside) items ≡ first ++ double_in_items items
unfolding double_among
in_items items first then names =
    ap (λ lines. lines ++ flat_map (λ item. (member_of item).inside) items) names
    ∙ append_assoc first (repeated [] (filter_map item_name items)) (flat_map (λ item. (member_of item).inside) items)
    ∙ ap (λ ns. first ++ (repeated [] ns ++ flat_map (λ item. (member_of item).inside) items)) (sym (member_names items))
    ∙ ap (λ lines. first ++ (repeated [] (filter_map (λ m. m.name) (map member_of items)) ++ lines)) (sym (flat_map-map (λ m. m.inside) member_of items))

-- what is added for an item
pub in_item : (item : Item) (first then : List ℕ) → then ≡ first ++ double_here (out-Item item).form → then ++ double_in_items (out-Item item).items ≡ first ++ (member_of item).inside
in_item item first then here =
    ap (λ lines. lines ++ double_in_items (out-Item item).items) here
    ∙ append_assoc first (double_here (out-Item item).form) (double_in_items (out-Item item).items)
    ∙ ap (λ m. first ++ m.inside) (sym (member_parts item))
