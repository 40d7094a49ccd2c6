-- What is written for an item, by its form.
use Rattle.std.proofs.Common.{◌≡◌, List, map, sym, ◌∙◌, ap}
use Rattle.std.specs.Prelude.{flat_map}
use Rattle.std.proofs.lemmas.List.Folds.{flat_map-map}
use Rattle.mm_lex.specs.Lexemes.{LexemeKind}
use Rattle.mm_ast.specs.declared.names.Name.{Name}
use Rattle.mm_ast.specs.declared.items.ItemForm.{ItemForm}
use Rattle.mm_ast.specs.declared.items.ItemForm.TheVariants as item_forms
use Rattle.mm_ast.specs.declared.items.Item.{Item}
use Rattle.mm_ast.specs.declared.items.Item.TheViews.{out-Item}
use Rattle.mm_ast.specs.declared.items.Item.TheFolds.{fold_out-Item}
use Rattle.mm_print.specs.ItemTokens.{item_form_tokens, item_tokens, module_tokens}

-- a form around what is written for the items in it
pub item_is : (item : Item) (form : ItemForm) → (out-Item item).form ≡ form → item_form_tokens form (map item_tokens (out-Item item).items) ≡ item_tokens item
unfolding item_tokens
item_is item form is =
    ap (λ f. item_form_tokens f (map item_tokens (out-Item item).items)) (sym is) ∙ sym (fold_out-Item (List LexemeKind) (λ layer. item_form_tokens layer.form layer.items) item)

-- a module, where its items are reported otherwise
pub module_is : (item : Item) (name : Name) (items : List Item) → (out-Item item).form ≡ item_forms.Module name → items ≡ (out-Item item).items → module_tokens name (flat_map item_tokens items) ≡ item_tokens item
module_is item name items is are =
    ap (λ ts. module_tokens name (flat_map item_tokens ts)) are ∙ ap (module_tokens name) (sym (flat_map-map (λ x. x) item_tokens (out-Item item).items)) ∙ item_is item (item_forms.Module name) is
