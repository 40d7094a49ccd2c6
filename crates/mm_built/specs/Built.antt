-- What is built of the language. Each line that ends with `false` names a form that is not built yet.
use Rattle.std.specs.Prelude.{◌&&◌, List, [], ◌∷◌, Bool, true, false, not}
use Rattle.std.specs.Bool.{IsTrue}
use Rattle.std.specs.List.{list_all}
use Rattle.std.specs.Option.{option_map_or}
use Rattle.mm_ast.specs.declared.bodies.Block.{Block}
use Rattle.mm_ast.specs.declared.bodies.Body.{Body}
use Rattle.mm_ast.specs.declared.bodies.Call.{Call}
use Rattle.mm_ast.specs.declared.bodies.Called.{Called}
use Rattle.mm_ast.specs.declared.bodies.Called.TheVariants as calls
use Rattle.mm_ast.specs.declared.bodies.Callee.{Callee}
use Rattle.mm_ast.specs.declared.bodies.Callee.TheVariants as callees
use Rattle.mm_ast.specs.declared.bodies.End.{End}
use Rattle.mm_ast.specs.declared.bodies.End.TheVariants as ends
use Rattle.mm_ast.specs.declared.bodies.Operand.{Operand}
use Rattle.mm_ast.specs.declared.bodies.Operand.TheVariants as operands
use Rattle.mm_ast.specs.declared.bodies.Place.{Place}
use Rattle.mm_ast.specs.declared.bodies.Place.TheVariants as places
use Rattle.mm_ast.specs.declared.bodies.Projection.{Projection}
use Rattle.mm_ast.specs.declared.bodies.Rvalue.{Rvalue}
use Rattle.mm_ast.specs.declared.bodies.Rvalue.TheVariants as rvalues
use Rattle.mm_ast.specs.declared.bodies.Statement.{Statement}
use Rattle.mm_ast.specs.declared.bodies.Statement.TheVariants as statements
use Rattle.mm_ast.specs.declared.bodies.Step.{Step}
use Rattle.mm_ast.specs.declared.bodies.Step.TheVariants as steps
use Rattle.mm_ast.specs.declared.items.Ast.{Ast}
use Rattle.mm_ast.specs.declared.items.BoundForm.{BoundForm}
use Rattle.mm_ast.specs.declared.items.BoundForm.TheVariants as bounds
use Rattle.mm_ast.specs.declared.items.Crate.{Crate}
use Rattle.mm_ast.specs.declared.items.DefinitionForm.{DefinitionForm}
use Rattle.mm_ast.specs.declared.items.DefinitionForm.TheVariants as definitions
use Rattle.mm_ast.specs.declared.items.Function.{Function}
use Rattle.mm_ast.specs.declared.items.Item.{Item}
use Rattle.mm_ast.specs.declared.items.ItemForm.{ItemForm}
use Rattle.mm_ast.specs.declared.items.ItemForm.TheVariants as forms
use Rattle.mm_ast.specs.declared.items.Signature.{Signature}
use Rattle.mm_ast.specs.declared.types.Head.{Head}
use Rattle.mm_ast.specs.declared.types.Head.TheVariants as heads
use Rattle.mm_ast.specs.declared.types.Type as types
use Rattle.mm_definitions.specs.Trees.{type_fold, item_fold}

-- ---- types

abbrev pub built_head : Head → Bool
built_head heads.SelfType = false
built_head heads.FnPtr = false
built_head (heads.FnItem path) = false
built_head (heads.Closure path) = false
built_head (heads.Dyn path) = false
built_head (heads.Adt path) = false
built_head _ = true

-- the head, and the types below it
unfoldable pub built_type : types.«Type» → Bool
built_type = type_fold (λ line head below. built_head head && list_all (λ built. built) below)

unfoldable pub built_types : List types.«Type» → Bool
built_types types = list_all built_type types

-- ---- bodies

abbrev pub built_step : Step → Bool
built_step (steps.Field number) = false
built_step steps.Deref = false
built_step (steps.Variant name) = false

abbrev pub built_projection : Projection → Bool
built_projection projection = built_step projection.first && list_all built_step projection.others

unfoldable pub built_place : Place → Bool
built_place (places.Static static) = false
built_place (places.Projection projection) = built_projection projection
built_place (places.Local local) = true

unfoldable pub built_callee : Callee → Bool
built_callee (callees.Method method) = false
built_callee (callees.Call type) = false
built_callee (callees.Direct named) = built_types named.args

unfoldable pub built_operand : Operand → Bool
built_operand (operands.Const named) = false
built_operand (operands.Fn callee) = false
built_operand (operands.Copy place) = built_place place
built_operand (operands.Move place) = built_place place
built_operand _ = true

unfoldable pub built_operands : List Operand → Bool
built_operands operands = list_all built_operand operands

unfoldable pub built_rvalue : Rvalue → Bool
built_rvalue (rvalues.Ref place) = false
built_rvalue (rvalues.Variant place) = false
built_rvalue (rvalues.Boxed operand) = false
built_rvalue (rvalues.Tuple operands) = false
built_rvalue (rvalues.New new) = false
built_rvalue (rvalues.Dyn operand type trait) = false
built_rvalue (rvalues.Use operand) = built_operand operand
built_rvalue (rvalues.Not operand) = built_operand operand
built_rvalue (rvalues.Binary op left right) = built_operand left && built_operand right

unfoldable pub built_statement : Statement → Bool
built_statement (statements.Set place rvalue) = built_place place && built_rvalue rvalue
built_statement (statements.Print operand) = built_operand operand

unfoldable pub built_called : Called → Bool
built_called (calls.Pointer operand) = false
built_called (calls.Callee callee) = built_callee callee

unfoldable pub built_call : Call → Bool
built_call call = built_place call.place && built_called call.called && built_operands call.operands

unfoldable pub built_end : End → Bool
built_end (ends.Drop place label) = false
built_end (ends.Switch switch) = built_operand switch.operand
built_end (ends.Call call) = built_call call
built_end _ = true

unfoldable pub built_block : Block → Bool
built_block block = list_all built_statement block.statements && built_end block.end

unfoldable pub built_body : Body → Bool
built_body body = built_types body.lets && list_all built_block body.blocks

-- ---- items

abbrev pub built_bound : BoundForm → Bool
built_bound (bounds.Trait named) = false
built_bound bounds.Call = false

unfoldable pub built_signature : Signature → Bool
built_signature signature = built_types signature.params && option_map_or built_type signature.result true

-- `inline` is not built
unfoldable pub built_function : Function → Bool
built_function f = not f.is_inline && list_all (λ bound. built_bound bound.form) f.bounds && built_signature f.signature && built_body f.body

abbrev pub built_definition : DefinitionForm → Bool
built_definition (definitions.Closure closure) = false
built_definition (definitions.Struct struct) = false
built_definition (definitions.Enum enum) = false
built_definition (definitions.Trait trait) = false
built_definition (definitions.Static static) = false
built_definition (definitions.Const constant) = false
built_definition (definitions.Function f) = built_function f

abbrev pub built_form : ItemForm → Bool
built_form (forms.Impl impl) = false
built_form (forms.Module name) = true
built_form (forms.Definition definition) = built_definition definition.form

-- the item, and those in it
unfoldable pub built_item : Item → Bool
built_item = item_fold (λ line form inside. built_form form && list_all (λ built. built) inside)

-- there is one crate
unfoldable pub built_crates : List Crate → Bool
built_crates (krate ∷ []) = list_all built_item krate.items
built_crates _ = false

-- all of the tree is built
abbrev pub is_built : Ast → Bool
is_built tree = built_crates tree.crates

abbrev pub IsBuilt : Ast → Type 0
IsBuilt tree = IsTrue (is_built tree)
