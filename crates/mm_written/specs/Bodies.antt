-- Bodies of functions, methods and closures.
use Rattle.std.specs.Prelude.{ℕ, ◌+◌, ◌&&◌, List, ◌∷◌, length, Bool, true, nat_lt}
use Rattle.mm_ast.specs.declared.bodies.Block.{Block}
use Rattle.mm_ast.specs.declared.bodies.Body.{Body}
use Rattle.mm_ast.specs.declared.bodies.Call.{Call}
use Rattle.mm_ast.specs.declared.bodies.Called.{Called}
use Rattle.mm_ast.specs.declared.bodies.Called.TheVariants as calls
use Rattle.mm_ast.specs.declared.bodies.Callee.{Callee}
use Rattle.mm_ast.specs.declared.bodies.Callee.TheVariants as callees
use Rattle.mm_ast.specs.declared.bodies.DynTrait.{DynTrait}
use Rattle.mm_ast.specs.declared.bodies.End.{End}
use Rattle.mm_ast.specs.declared.bodies.End.TheVariants as ends
use Rattle.mm_ast.specs.declared.bodies.MethodCallee.{MethodCallee}
use Rattle.mm_ast.specs.declared.bodies.New.{New}
use Rattle.mm_ast.specs.declared.bodies.Operand.{Operand}
use Rattle.mm_ast.specs.declared.bodies.Operand.TheVariants as operands
use Rattle.mm_ast.specs.declared.bodies.Place.{Place}
use Rattle.mm_ast.specs.declared.bodies.Place.TheVariants as places
use Rattle.mm_ast.specs.declared.bodies.Projection.{Projection}
use Rattle.mm_ast.specs.declared.bodies.Rvalue.{Rvalue}
use Rattle.mm_ast.specs.declared.bodies.Rvalue.TheVariants as rvalues
use Rattle.mm_ast.specs.declared.bodies.Statement.{Statement}
use Rattle.mm_ast.specs.declared.bodies.Statement.TheVariants as statements
use Rattle.mm_ast.specs.declared.bodies.Step.{Step}
use Rattle.mm_ast.specs.declared.bodies.Step.TheVariants as steps
use Rattle.mm_ast.specs.declared.bodies.Switch.{Switch}
use Rattle.mm_written.specs.Lists.{few, some, few_each}
use Rattle.mm_written.specs.Names.{written_name, written_variant_name}
use Rattle.mm_written.specs.Types.{constructors_in, written_type, written_types, written_args}

-- ---- places

abbrev pub written_step : Step → Bool
written_step (steps.Field number) = true
written_step steps.Deref = true
written_step (steps.Variant name) = written_name name

unfoldable pub written_steps : List Step → Bool
written_steps steps = few_each written_step steps

-- the first step, and those behind it
unfoldable pub written_projection : Projection → Bool
written_projection projection = written_steps (projection.first ∷ projection.others)

unfoldable pub written_place : Place → Bool
written_place (places.Local local) = true
written_place (places.Projection projection) = written_projection projection
written_place (places.Static static) = written_steps static.steps

-- ---- operands

-- the self type, the type arguments of the trait, the name of the method, and its type arguments
unfoldable pub written_method_callee : MethodCallee → Bool
written_method_callee m = written_type m.self_type && written_args m.of && written_name m.name && written_types m.args

unfoldable pub written_callee : Callee → Bool
written_callee (callees.Direct named) = written_args named
written_callee (callees.Method method) = written_method_callee method
written_callee (callees.Call call) = written_type call.self_type

unfoldable pub written_operand : Operand → Bool
written_operand (operands.Copy place) = written_place place
written_operand (operands.Move place) = written_place place
written_operand (operands.Number number) = true
written_operand (operands.Bool value) = true
written_operand (operands.Const named) = written_args named
written_operand (operands.Fn callee) = written_callee callee

unfoldable pub written_operands : List Operand → Bool
written_operands operands = few_each written_operand operands

-- ---- statements

-- the type arguments, the name of the variant, and the fields
unfoldable pub written_new : New → Bool
written_new new = written_args new.of && written_variant_name new.variant && written_operands new.operands

-- `dyn` and a trait, which are one constructor over the type arguments
unfoldable pub written_dyn : DynTrait → Bool
written_dyn dyn = written_args dyn.of && nat_lt (1 + constructors_in dyn.of.args) 4294967296

unfoldable pub written_rvalue : Rvalue → Bool
written_rvalue (rvalues.Use operand) = written_operand operand
written_rvalue (rvalues.Ref place) = written_place place
written_rvalue (rvalues.Not operand) = written_operand operand
written_rvalue (rvalues.Binary op left right) = written_operand left && written_operand right
written_rvalue (rvalues.Variant place) = written_place place
written_rvalue (rvalues.Boxed operand) = written_operand operand
written_rvalue (rvalues.Tuple operands) = written_operands operands
written_rvalue (rvalues.New new) = written_new new
written_rvalue (rvalues.Dyn operand type dyn) = written_operand operand && written_type type && written_dyn dyn

unfoldable pub written_statement : Statement → Bool
written_statement (statements.Set place rvalue) = written_place place && written_rvalue rvalue
written_statement (statements.Print operand) = written_operand operand

-- ---- blocks

unfoldable pub written_switch : Switch → Bool
written_switch switch = written_operand switch.operand && few switch.arms

unfoldable pub written_called : Called → Bool
written_called (calls.Callee callee) = written_callee callee
written_called (calls.Pointer operand) = written_operand operand

unfoldable pub written_call : Call → Bool
written_call call = written_place call.place && written_called call.called && written_operands call.operands

unfoldable pub written_end : End → Bool
written_end ends.Return = true
written_end ends.Unreachable = true
written_end (ends.Goto label) = true
written_end (ends.Switch switch) = written_switch switch
written_end (ends.Call call) = written_call call
written_end (ends.Drop place label) = written_place place

unfoldable pub written_block : Block → Bool
written_block block = few_each written_statement block.statements && written_end block.end

-- the result, the parameters with the closure where the body is that of one, and the locals of `let` have numbers
abbrev pub few_locals : ℕ → ℕ → Bool
few_locals params lets = nat_lt (params + lets + 2) 4294967296

-- a body with so many parameters
unfoldable pub written_body : ℕ → Body → Bool
written_body params body =
    few_locals params (length body.lets) && written_types body.lets && some body.blocks && few_each written_block body.blocks
