-- Folds over types and items, by their parts.
use Rattle.std.proofs.Common.{◌≡◌, ℕ, List, [], ◌∷◌, map, Bool, ◌||◌, refl, ap}
use Rattle.std.specs.List.{list_any}
use Rattle.mm_ast.specs.declared.items.Item.{Item}
use Rattle.mm_ast.specs.declared.items.Item.TheFolds.{fold_out-Item}
use Rattle.mm_ast.specs.declared.items.ItemForm.{ItemForm}
use Rattle.mm_ast.specs.declared.types.Head.{Head}
use Rattle.mm_ast.specs.declared.types.Type as types
use Rattle.mm_ast.specs.declared.types.Type.TheFolds.{fold_out-Type}
use Rattle.mm_definitions.specs.Trees.{line_of, head_of, children_of, type_fold, item_line, form_of, items_in, item_fold}

pub type_fold-parts : {A : Type 0} (step : ℕ → Head → List A → A) (t : types.«Type») → type_fold step t ≡ step (line_of t) (head_of t) (map (type_fold step) (children_of t))
type_fold-parts {A} step t = fold_out-Type A (λ layer. step layer.line layer.head layer.children) t

pub item_fold-parts : {A : Type 0} (step : ℕ → ItemForm → List A → A) (item : Item) → item_fold step item ≡ step (item_line item) (form_of item) (map (item_fold step) (items_in item))
item_fold-parts {A} step item = fold_out-Item A (λ layer. step layer.line layer.form layer.items) item

pub list_any-map : {A B : Type 0} (p : B → Bool) (f : A → B) (xs : List A) → list_any p (map f xs) ≡ list_any (λ x. p (f x)) xs
list_any-map p f [] = refl
list_any-map p f (x ∷ xs) = ap (λ b. p (f x) || b) (list_any-map p f xs)
