-- The program that a tree means: each name is replaced by the index to which it resolves. What stands for a form that is
-- not built says nothing of it.
use Rattle.std.specs.Prelude.{◌≡◌, ℕ, List, [], ◌∷◌, ◌++◌, length, map, Option, None, Some, unwrap_or}
use Rattle.mm_ast.specs.declared.items.Ast.{Ast}
use Rattle.mm_ast.specs.declared.items.Crate.{Crate}
use Rattle.mm_ast.specs.declared.items.Function as written_function
use Rattle.mm_ast.specs.declared.types.Type as written_type
use Rattle.mm_ast.specs.declared.types.Head.{Head}
use Rattle.mm_ast.specs.declared.types.Head.TheVariants as heads
use Rattle.mm_ast.specs.declared.bodies.Block as written_block
use Rattle.mm_ast.specs.declared.bodies.End as written_end
use Rattle.mm_ast.specs.declared.bodies.End.TheVariants as written
use Rattle.mm_ast.specs.declared.bodies.Call as written_call
use Rattle.mm_ast.specs.declared.bodies.Statement as written_statement
use Rattle.mm_ast.specs.declared.bodies.Statement.TheVariants as written_statements
use Rattle.mm_ast.specs.declared.bodies.Rvalue as written_rvalue
use Rattle.mm_ast.specs.declared.bodies.Rvalue.TheVariants as written_rvalues
use Rattle.mm_ast.specs.declared.bodies.Op as written_op
use Rattle.mm_ast.specs.declared.bodies.Op.TheVariants as written_ops
use Rattle.mm_ast.specs.declared.bodies.Arm as written_arm
use Rattle.mm_ast.specs.declared.bodies.Called.{Called}
use Rattle.mm_ast.specs.declared.bodies.Called.TheVariants as calls
use Rattle.mm_ast.specs.declared.bodies.Callee.TheVariants as callees
use Rattle.mm_ast.specs.declared.bodies.Place as written_place
use Rattle.mm_ast.specs.declared.bodies.Operand as written_operand
use Rattle.mm_ast.specs.declared.bodies.Operand.TheVariants as operands
use Rattle.mm_terms.specs.declared.ids.DefId.{DefId}
use Rattle.mm_terms.specs.declared.ty_head.TyHead.{TyHead}
use Rattle.mm_terms.specs.declared.ty_head.TyHead.TheVariants.{Param, U64, Bool, Tuple, Ref, Boxed}
use Rattle.mm_terms.specs.declared.tree.Tree.{Tree}
use Rattle.mm_terms.specs.Tree.{node}
use Rattle.mm_plain.specs.declared.program.Program.{Program}
use Rattle.mm_plain.specs.declared.program.Function.{Function}
use Rattle.mm_plain.specs.declared.program.Block.{Block}
use Rattle.mm_plain.specs.declared.program.End.{End}
use Rattle.mm_plain.specs.declared.program.End.TheVariants as ends
use Rattle.mm_plain.specs.declared.program.Call.{Call}
use Rattle.mm_plain.specs.declared.program.Place.{Place}
use Rattle.mm_plain.specs.declared.program.Statement.{Statement}
use Rattle.mm_plain.specs.declared.program.Statement.TheVariants as statements
use Rattle.mm_plain.specs.declared.program.Rvalue.{Rvalue}
use Rattle.mm_plain.specs.declared.program.Rvalue.TheVariants as rvalues
use Rattle.mm_plain.specs.declared.program.Op.{Op}
use Rattle.mm_plain.specs.declared.program.Op.TheVariants as ops
use Rattle.mm_plain.specs.declared.program.Arm.{Arm}
use Rattle.mm_plain.specs.declared.program.Operand.{Operand}
use Rattle.mm_plain.specs.declared.program.Operand.TheVariants.{Copy, Move, Num, Truth}
use Rattle.mm_built.specs.Built.{IsBuilt}
use Rattle.mm_load_plain.specs.Names.{Names, path_named, main_path, names_in}
use Rattle.mm_load_plain.specs.WrittenItem.{Defined, functions_of, paths_in, crate_of}
use Rattle.mm_load_plain.specs.Rules.{KeepsRules}
use Rattle.mm_load_plain.specs.WrittenPlace.{local_of}
use Rattle.mm_definitions.specs.Trees.{type_fold}

-- the index to which a name resolves; one that resolves to nothing stands in no tree that keeps the rules
abbrev pub index_in : Names → List ℕ → ℕ
index_in names name = unwrap_or (names name) 0

abbrev pub def_id : ℕ → DefId
def_id n = record { 0 = n }

-- a type parameter is named by its index
abbrev pub head_in : Names → Head → TyHead
head_in scope (heads.Param name) = Param (index_in scope name)
head_in scope heads.U64 = U64
head_in scope heads.Bool = Bool
head_in scope heads.Ref = Ref
head_in scope heads.Boxed = Boxed
head_in scope _ = Tuple

unfoldable pub type_of : Names → written_type.Type → Tree
type_of scope = type_fold (λ line head children. node (head_in scope head) children)

unfoldable pub types_of : Names → List written_type.Type → List Tree
types_of scope types = map (type_of scope) types

-- where no result is written it is the empty tuple
unfoldable pub result_of : Names → Option written_type.Type → Tree
result_of scope None = node Tuple []
result_of scope (Some type) = type_of scope type

abbrev pub place_of : written_place.Place → Place
place_of place = record { local = local_of place }

unfoldable pub operand_of : written_operand.Operand → Operand
operand_of (operands.Copy place) = Copy (place_of place)
operand_of (operands.Move place) = Move (place_of place)
operand_of (operands.Number n) = Num n
operand_of (operands.Bool b) = Truth b
operand_of _ = Num 0

unfoldable pub op_of : written_op.Op → Op
op_of written_ops.Add = ops.Add
op_of written_ops.Sub = ops.Sub
op_of written_ops.Mul = ops.Mul
op_of written_ops.Div = ops.Div
op_of written_ops.Rem = ops.Rem
op_of written_ops.Eq = ops.Eq
op_of written_ops.Lt = ops.Lt

unfoldable pub rvalue_of : written_rvalue.Rvalue → Rvalue
rvalue_of (written_rvalues.Use operand) = rvalues.Use (operand_of operand)
rvalue_of (written_rvalues.Not operand) = rvalues.Not (operand_of operand)
rvalue_of (written_rvalues.Binary op left right) = rvalues.Binary (op_of op) (operand_of left) (operand_of right)
rvalue_of _ = rvalues.Use (Num 0)

unfoldable pub statement_of : written_statement.Statement → Statement
statement_of (written_statements.Set place rvalue) = statements.Set (place_of place) (rvalue_of rvalue)
statement_of (written_statements.Print operand) = statements.Print (operand_of operand)

unfoldable pub arm_of : written_arm.Arm → Arm
arm_of arm = record { number = arm.number; label = arm.label.number }

-- the number of the function that is called
abbrev pub callee_in : Names → Called → ℕ
callee_in paths (calls.Callee (callees.Direct named)) = index_in paths (path_named named.path)
callee_in paths _ = 0

-- its type arguments
abbrev pub args_in : Names → Called → List Tree
args_in scope (calls.Callee (callees.Direct named)) = types_of scope named.args
args_in scope _ = []

unfoldable pub call_of : Names → Names → written_call.Call → Call
call_of paths scope call =
    record {
      place = place_of call.place;
      callee = def_id (callee_in paths call.called);
      args = args_in scope call.called;
      operands = map operand_of call.operands;
      target = call.target.number;
    }

unfoldable pub end_of : Names → Names → written_end.End → End
end_of paths scope written.Return = ends.Return
end_of paths scope (written.Goto label) = ends.Goto label.number
end_of paths scope (written.Switch switch) = ends.Switch (operand_of switch.operand) (map arm_of switch.arms) switch.otherwise.number
end_of paths scope (written.Call call) = ends.Call (call_of paths scope call)
end_of paths scope _ = ends.Unreachable

unfoldable pub block_of : Names → Names → written_block.Block → Block
block_of paths scope block = record { statements = map statement_of block.statements; end = end_of paths scope block.end }

-- the result, the parameters, and the `let` locals
unfoldable pub locals_of : Names → written_function.Function → List Tree
locals_of scope f = result_of scope f.signature.result ∷ types_of scope f.signature.params ++ types_of scope f.body.lets

unfoldable pub function_in : Names → Names → Defined → Function
function_in paths scope d =
    record {
      is_pub = d.is_pub;
      path = d.path;
      type_params = length d.function.type_params;
      params = length d.function.signature.params;
      locals = locals_of scope d.function;
      blocks = map (block_of paths scope) d.function.body.blocks;
    }

abbrev pub function_of : Names → Defined → Function
function_of paths d = function_in paths (names_in d.function) d

unfoldable pub program_in : Names → List Defined → Crate → Program
program_in paths functions krate =
    record {
      krate = krate.name.text;
      functions = map (function_of paths) functions;
      main = def_id (index_in paths (main_path krate.name.text));
    }

abbrev pub program_of : Crate → Program
program_of krate = program_in (paths_in krate) (functions_of krate) krate

-- all of the tree is built, it keeps the rules, and this is its program
pub record IsProgram (tree : Ast) (program : Program) : Type 0 where
  pub built : IsBuilt tree
  pub kept : KeepsRules tree
  pub means : program ≡ program_of (crate_of tree)
