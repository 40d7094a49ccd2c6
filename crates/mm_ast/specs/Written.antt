-- What each tree has that is read from a text, as far as the laws of programs need it. It says nothing of forms that are
-- not built.
use Rattle.std.specs.Prelude.{◌≡◌, ◌≢◌, ℕ, ◌+◌, ◌≤◌, ⊤, List, [], length, Option, None, Some, All}
use Rattle.mm_ast.specs.declared.bodies.Block.{Block}
use Rattle.mm_ast.specs.declared.bodies.Called.{Called}
use Rattle.mm_ast.specs.declared.bodies.Called.TheVariants as calls
use Rattle.mm_ast.specs.declared.bodies.Callee.TheVariants as callees
use Rattle.mm_ast.specs.declared.bodies.End.{End}
use Rattle.mm_ast.specs.declared.bodies.End.TheVariants as ends
use Rattle.mm_ast.specs.declared.items.Ast.{Ast}
use Rattle.mm_ast.specs.declared.items.Crate.{Crate}
use Rattle.mm_ast.specs.declared.items.DefinitionForm.{DefinitionForm}
use Rattle.mm_ast.specs.declared.items.DefinitionForm.TheVariants as definitions
use Rattle.mm_ast.specs.declared.items.Function.{Function}
use Rattle.mm_ast.specs.declared.items.Item.{Item}
use Rattle.mm_ast.specs.declared.items.Item.TheFolds.{every-Item}
use Rattle.mm_ast.specs.declared.items.Item.TheOpen.{Item-F}
use Rattle.mm_ast.specs.declared.items.ItemForm.{ItemForm}
use Rattle.mm_ast.specs.declared.items.ItemForm.TheVariants as forms
use Rattle.mm_ast.specs.declared.types.Head.{Head}
use Rattle.mm_ast.specs.declared.types.Head.TheVariants as heads
use Rattle.mm_ast.specs.declared.types.Type as written
use Rattle.mm_ast.specs.declared.types.Type.TheFolds.{every-Type}
use Rattle.mm_ast.specs.declared.types.Type.TheOpen.{Type-F}
use Rattle.mm_names.specs.Names.{IsName}

-- ---- types

-- the head takes so many children
abbrev pub Takes : Head → ℕ → Type 0
Takes (heads.Param name) n = n ≡ 0
Takes heads.U64 n = n ≡ 0
Takes heads.Bool n = n ≡ 0
Takes heads.Tuple n = n ≢ 1
Takes heads.Ref n = n ≡ 1
Takes heads.Boxed n = n ≡ 1
Takes _ n = ⊤

abbrev pub TakesBelow : Type-F written.Type → Type 0
TakesBelow layer = Takes layer.head (length layer.children)

-- each head in the type has as many children as it takes
unfoldable pub IsWrittenType : written.Type → Type 0
IsWrittenType = every-Type TakesBelow

abbrev pub IsWrittenResult : Option written.Type → Type 0
IsWrittenResult None = ⊤
IsWrittenResult (Some type) = IsWrittenType type

-- ---- functions

-- the type arguments of a function that is called
abbrev pub IsWrittenCalled : Called → Type 0
IsWrittenCalled (calls.Callee (callees.Direct named)) = All IsWrittenType named.args
IsWrittenCalled _ = ⊤

abbrev pub IsWrittenEnd : End → Type 0
IsWrittenEnd (ends.Call call) = IsWrittenCalled call.called
IsWrittenEnd _ = ⊤

abbrev pub IsWrittenBlock : Block → Type 0
IsWrittenBlock block = IsWrittenEnd block.end

-- locals and labels have numbers up to 65,535, and there is a block
pub record IsWrittenFunction (f : Function) : Type 0 where
  pub named : IsName f.name.text
  pub params : All IsWrittenType f.signature.params
  pub result : IsWrittenResult f.signature.result
  pub lets : All IsWrittenType f.body.lets
  pub few_locals : length f.signature.params + length f.body.lets ≤ 65535
  pub some_block : 1 ≤ length f.body.blocks
  pub few_blocks : length f.body.blocks ≤ 65536
  pub blocks : All IsWrittenBlock f.body.blocks

-- ---- items

abbrev pub IsWrittenDefinition : DefinitionForm → Type 0
IsWrittenDefinition (definitions.Function f) = IsWrittenFunction f
IsWrittenDefinition _ = ⊤

-- an item of this form, in which these items stand
abbrev pub IsWrittenForm : ItemForm → List Item → Type 0
IsWrittenForm (forms.Module name) items = IsName name.text
IsWrittenForm (forms.Definition definition) items = (items ≡ []) × IsWrittenDefinition definition.form
IsWrittenForm (forms.Impl impl) items = ⊤

abbrev pub IsWrittenHere : Item-F Item → Type 0
IsWrittenHere layer = IsWrittenForm layer.form layer.items

-- the item, and each in it
unfoldable pub IsWrittenItem : Item → Type 0
IsWrittenItem = every-Item IsWrittenHere

-- a crate has a name, and items
pub record IsWrittenCrate (krate : Crate) : Type 0 where
  pub named : IsName krate.name.text
  pub items : All IsWrittenItem krate.items

-- a tree that is read from a text
abbrev pub IsWritten : Ast → Type 0
IsWritten tree = All IsWrittenCrate tree.crates
