-- Callees and operands with their names looked up.
use Rattle.std.specs.Prelude.{List, map}
use Rattle.mm_ast.specs.declared.bodies.Callee as written_callee
use Rattle.mm_ast.specs.declared.bodies.Callee.TheVariants as written
use Rattle.mm_ast.specs.declared.bodies.Called.{Called}
use Rattle.mm_ast.specs.declared.bodies.Called.TheVariants as calls
use Rattle.mm_ast.specs.declared.bodies.Operand as written_operand
use Rattle.mm_ast.specs.declared.bodies.Operand.TheVariants as operands
use Rattle.mm_definitions.specs.declared.kinds.Kind.TheVariants as kinds
use Rattle.mm_definitions.specs.declared.kinds.Wanted.TheVariants as wants
use Rattle.mm_program.specs.declared.operand.Callee.{Callee}
use Rattle.mm_program.specs.declared.operand.Callee.TheVariants as callee
use Rattle.mm_program.specs.declared.operand.Operand.{Operand}
use Rattle.mm_program.specs.declared.operand.Operand.TheVariants as operand
use Rattle.mm_lower.specs.Params.{Params}
use Rattle.mm_lower.specs.Paths.{Paths, def_of, place_at}
use Rattle.mm_lower.specs.Places.{place_of}
use Rattle.mm_lower.specs.Types.{type_of, types_of, trait_of}

module _ (paths : Paths) (params : Params) where
  unfoldable pub callee_of : written_callee.Callee → Callee
  callee_of (written.Direct named) = callee.Direct (def_of paths (wants.One kinds.Function) named.path) (types_of paths params named.args)
  callee_of (written.Method m) = callee.Method (trait_of paths params m.self_type m.of) (place_at paths kinds.Method m.of.path m.name) (types_of paths params m.args)
  callee_of (written.Call c) = callee.Call (type_of paths params c.self_type)

  unfoldable pub operand_of : written_operand.Operand → Operand
  operand_of (operands.Copy place) = operand.Copy (place_of paths place)
  operand_of (operands.Move place) = operand.Move (place_of paths place)
  operand_of (operands.Number n) = operand.Num n
  operand_of (operands.Bool b) = operand.Truth b
  operand_of (operands.Const named) = operand.Const (def_of paths (wants.One kinds.Const) named.path) (types_of paths params named.args)
  operand_of (operands.Fn function) = operand.Fn (callee_of function)

  abbrev pub operands_of : List written_operand.Operand → List Operand
  operands_of list = map operand_of list

  -- what a call calls
  unfoldable pub called_of : Called → Callee
  called_of (calls.Callee function) = callee_of function
  called_of (calls.Pointer pointer) = callee.Pointer (operand_of pointer)
