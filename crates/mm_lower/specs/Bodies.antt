-- Bodies with their names looked up.
use Rattle.std.specs.Prelude.{ℕ, List, ◌∷◌, ◌++◌, length, map, Option, None, Some}
use Rattle.mm_ast.specs.declared.bodies.Arm as written_arm
use Rattle.mm_ast.specs.declared.bodies.Block as written_block
use Rattle.mm_ast.specs.declared.bodies.Body.{Body}
use Rattle.mm_ast.specs.declared.bodies.Call.{Call}
use Rattle.mm_ast.specs.declared.bodies.End as written_end
use Rattle.mm_ast.specs.declared.bodies.End.TheVariants as ends
use Rattle.mm_ast.specs.declared.bodies.New.{New}
use Rattle.mm_ast.specs.declared.bodies.Op as written_op
use Rattle.mm_ast.specs.declared.bodies.Op.TheVariants as written
use Rattle.mm_ast.specs.declared.bodies.Rvalue as written_rvalue
use Rattle.mm_ast.specs.declared.bodies.Rvalue.TheVariants as rvalues
use Rattle.mm_ast.specs.declared.bodies.Statement as written_statement
use Rattle.mm_ast.specs.declared.bodies.Statement.TheVariants as statements
use Rattle.mm_ast.specs.declared.bodies.Switch.{Switch}
use Rattle.mm_ast.specs.declared.names.Name.{Name}
use Rattle.mm_ast.specs.declared.names.PathWithArgs.{PathWithArgs}
use Rattle.mm_definitions.specs.declared.kinds.Kind.TheVariants as kinds
use Rattle.mm_definitions.specs.declared.kinds.Wanted.TheVariants as wants
use Rattle.mm_terms.specs.declared.ids.DefId.{DefId}
use Rattle.mm_terms.specs.declared.tree.Tree.{Tree}
use Rattle.mm_program.specs.declared.block.Arm.{Arm}
use Rattle.mm_program.specs.declared.block.Block.{Block}
use Rattle.mm_program.specs.declared.block.End.{End}
use Rattle.mm_program.specs.declared.block.End.TheVariants as end
use Rattle.mm_program.specs.declared.statement.Op.{Op}
use Rattle.mm_program.specs.declared.statement.Op.TheVariants as op
use Rattle.mm_program.specs.declared.statement.Rvalue.{Rvalue}
use Rattle.mm_program.specs.declared.statement.Rvalue.TheVariants as rvalue
use Rattle.mm_program.specs.declared.statement.Statement.{Statement}
use Rattle.mm_program.specs.declared.statement.Statement.TheVariants as statement
use Rattle.mm_program.specs.Code.{Code}
use Rattle.mm_lower.specs.Callees.{called_of, operand_of, operands_of}
use Rattle.mm_lower.specs.Params.{Params}
use Rattle.mm_lower.specs.Paths.{Paths, def_of, place_at}
use Rattle.mm_lower.specs.Places.{place_of}
use Rattle.mm_lower.specs.Types.{type_of, types_of, dyn_type_of}

unfoldable pub op_of : written_op.Op → Op
op_of written.Add = op.Add
op_of written.Sub = op.Sub
op_of written.Mul = op.Mul
op_of written.Div = op.Div
op_of written.Rem = op.Rem
op_of written.Eq = op.Eq
op_of written.Lt = op.Lt

abbrev pub arm_of : written_arm.Arm → Arm
arm_of arm = record { number = arm.number; label = arm.label.number }

-- what is made by `new`: a struct or a closure, or an enum where a variant is written
unfoldable pub made_of : Paths → PathWithArgs → Option Name → DefId
made_of paths named None = def_of paths wants.Whole named.path
made_of paths named (Some variant) = def_of paths (wants.One kinds.Enum) named.path

-- the number of the variant that it is made as, which is 0 of a struct and of a closure
unfoldable pub variant_of : Paths → PathWithArgs → Option Name → ℕ
variant_of paths named None = 0
variant_of paths named (Some variant) = place_at paths kinds.Variant named.path variant

module _ (paths : Paths) (params : Params) where
  -- what is made by `new`, of its operands
  unfoldable pub new_of : New → Rvalue
  new_of new = rvalue.New (made_of paths new.of new.variant) (types_of paths params new.of.args) (variant_of paths new.of new.variant) (operands_of paths params new.operands)

  unfoldable pub rvalue_of : written_rvalue.Rvalue → Rvalue
  rvalue_of (rvalues.Use only) = rvalue.Use (operand_of paths params only)
  rvalue_of (rvalues.Ref place) = rvalue.Ref (place_of paths place)
  rvalue_of (rvalues.Not only) = rvalue.Not (operand_of paths params only)
  rvalue_of (rvalues.Binary o left right) = rvalue.Binary (op_of o) (operand_of paths params left) (operand_of paths params right)
  rvalue_of (rvalues.Variant place) = rvalue.Variant (place_of paths place)
  rvalue_of (rvalues.Boxed only) = rvalue.Boxed (operand_of paths params only)
  rvalue_of (rvalues.Tuple parts) = rvalue.Tuple (operands_of paths params parts)
  rvalue_of (rvalues.New new) = new_of new
  rvalue_of (rvalues.Dyn only behind to) = rvalue.Dyn (operand_of paths params only) (type_of paths params behind) (dyn_type_of paths params to)

  unfoldable pub statement_of : written_statement.Statement → Statement
  statement_of (statements.Set place made) = statement.Set (place_of paths place) (rvalue_of made)
  statement_of (statements.Print only) = statement.Print (operand_of paths params only)

  unfoldable pub switch_of : Switch → End
  switch_of s = end.Switch (operand_of paths params s.operand) (map arm_of s.arms) s.otherwise.number

  unfoldable pub call_of : Call → End
  call_of c = end.Call (place_of paths c.place) (called_of paths params c.called) (operands_of paths params c.operands) c.target.number

  unfoldable pub end_of : written_end.End → End
  end_of ends.Return = end.Return
  end_of ends.Unreachable = end.Unreachable
  end_of (ends.Goto label) = end.Goto label.number
  end_of (ends.Switch s) = switch_of s
  end_of (ends.Call c) = call_of c
  end_of (ends.Drop place label) = end.Drop (place_of paths place) label.number

  unfoldable pub block_of : written_block.Block → Block
  block_of block = record { statements = map statement_of block.statements; end = end_of block.end }

  -- a body, where the result and the parameters have these types. The locals are these, and those of `let`
  unfoldable pub body_of : Tree → List Tree → Body → Code
  body_of result types body = record { params = length types; locals = result ∷ types ++ types_of paths params body.lets; blocks = map block_of body.blocks }
