-- Induction over items, and the items that are read from a text, by their parts.
use Rattle.std.proofs.Common.{◌≡◌, ℕ, List, [], ◌∷◌, map, refl, sym, ap, subst}
use Rattle.std.specs.Prelude.{All}
use Rattle.std.proofs.lemmas.List.Elements.{All-nil, All-cons, All-head, All-tail}
use Rattle.mm_ast.specs.declared.items.ItemForm.{ItemForm}
use Rattle.mm_ast.specs.declared.items.Item.{Item}
use Rattle.mm_ast.specs.declared.items.Item.TheViews.{out-Item, roll-Item, out-roll-Item}
use Rattle.mm_ast.specs.declared.items.Item.TheFolds.{ind-Item, every-Item, every_here-Item, every_held-Item, every_made-Item}
use Rattle.mm_ast.specs.declared.items.Item.TheOpen.{Item-F}
use Rattle.mm_ast.specs.Written.{IsWrittenForm, IsWrittenHere, IsWrittenItem}
use Rattle.mm_definitions.specs.Trees.{items_in}

each_of : (P : Item → Type 0) (items : List ((item : Item) × P item)) → All P (map (λ e. e.0) items)
each_of P [] = All-nil P
each_of P (item ∷ items) = All-cons P item.0 (map (λ e. e.0) items) item.1 (each_of P items)

-- induction: what holds of an item wherever it holds of each item right in it holds of every item
pub item_ind : (P : Item → Type 0) → ((item : Item) → All P (items_in item) → P item) → (item : Item) → P item
item_ind P step =
    ind-Item P (λ layer held are. step (roll-Item layer) (subst (All P) (sym (ap (λ (z : Item-F Item). z.items) (out-roll-Item layer))) (subst (λ (z : Item-F Item). All P z.items) are (each_of P held.items))))

-- ---- items that are read from a text

pub written_item-form : (item : Item) → IsWrittenItem item → IsWrittenForm (out-Item item).form (items_in item)
unfolding IsWrittenItem
written_item-form item is = every_here-Item IsWrittenHere item is

pub written_item-inside : (item : Item) → IsWrittenItem item → All IsWrittenItem (items_in item)
unfolding IsWrittenItem
written_item-inside item is =
    let held = every_held-Item IsWrittenHere item is in
    subst (λ (layer : Item-F Item). All (every-Item IsWrittenHere) layer.items) held.1 (each_of (every-Item IsWrittenHere) held.0.items)

paired : (P : Item → Type 0) (items : List Item) → All P items → List ((item : Item) × P item)
paired P [] each = []
paired P (item ∷ items) each = (item, All-head P item items each) ∷ paired P items (All-tail P item items each)

paired_are : (P : Item → Type 0) (items : List Item) (each : All P items) → map (λ e. e.0) (paired P items each) ≡ items
unfolding paired
paired_are P [] each = refl
paired_are P (item ∷ items) each = ap (λ list. item ∷ list) (paired_are P items (All-tail P item items each))

-- an item whose form and items are as they are read from a text
pub written_item-made : (line : ℕ) (form : ItemForm) (items : List Item) → IsWrittenForm form items → All IsWrittenItem items → IsWrittenItem (roll-Item (record { line = line; form = form; items = items }))
unfolding IsWrittenItem
written_item-made line form items here each =
    every_made-Item IsWrittenHere
    (record { line = line; form = form; items = items })
    (record { line = line; form = form; items = paired (every-Item IsWrittenHere) items each })
    (λ i. record { line = line; form = form; items = paired_are (every-Item IsWrittenHere) items each i })
    here
