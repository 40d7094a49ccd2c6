-- Types and items as they are written: each has a line, a head or a form, and a list of what stands below it.
use Rattle.std.specs.Prelude.{ℕ, List}
use Rattle.mm_ast.specs.declared.items.Item.{Item}
use Rattle.mm_ast.specs.declared.items.Item.TheFolds.{fold-Item}
use Rattle.mm_ast.specs.declared.items.Item.TheViews.{out-Item}
use Rattle.mm_ast.specs.declared.items.ItemForm.{ItemForm}
use Rattle.mm_ast.specs.declared.types.Head.{Head}
use Rattle.mm_ast.specs.declared.types.Type as types
use Rattle.mm_ast.specs.declared.types.Type.TheFolds.{fold-Type}
use Rattle.mm_ast.specs.declared.types.Type.TheViews.{out-Type}

-- the line, the head and the children of a type
abbrev pub line_of : types.«Type» → ℕ
line_of t = (out-Type t).line

abbrev pub head_of : types.«Type» → Head
head_of t = (out-Type t).head

abbrev pub children_of : types.«Type» → List types.«Type»
children_of t = (out-Type t).children

-- a value of a type, by its line, its head and the values of its children
abbrev pub type_fold : {A : Type 0} → (ℕ → Head → List A → A) → types.«Type» → A
type_fold {A} step = fold-Type A (λ layer. step layer.line layer.head layer.children)

-- the line and the form of an item, and the items in it
abbrev pub item_line : Item → ℕ
item_line item = (out-Item item).line

abbrev pub form_of : Item → ItemForm
form_of item = (out-Item item).form

abbrev pub items_in : Item → List Item
items_in item = (out-Item item).items

-- a value of an item, by its line, its form and the values of the items in it
abbrev pub item_fold : {A : Type 0} → (ℕ → ItemForm → List A → A) → Item → A
item_fold {A} step = fold-Item A (λ layer. step layer.line layer.form layer.items)
