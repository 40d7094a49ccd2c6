-- The image machine: what objects do. A function is a definition of a unit, and each call looks up a symbol in the unit
-- of the one that calls. It knows nothing of types and items.
use Rattle.std.specs.Prelude.{ℕ, List, [], map, Option, None, Some, slice_get}
use Rattle.mm_objects.specs.declared.objects.ObjBlock.{ObjBlock}
use Rattle.mm_objects.specs.declared.objects.ObjBase.{ObjBase}
use Rattle.mm_objects.specs.declared.objects.ObjBase.TheVariants.{Local}
use Rattle.mm_objects.specs.declared.objects.ObjCallee.{ObjCallee}
use Rattle.mm_objects.specs.declared.objects.ObjCallee.TheVariants as callee
use Rattle.mm_objects.specs.declared.objects.ObjDef.{ObjDef}
use Rattle.mm_objects.specs.declared.objects.ObjDef.TheVariants.{Code as Compiled}
use Rattle.mm_objects.specs.declared.objects.ObjEnd.{ObjEnd}
use Rattle.mm_objects.specs.declared.objects.ObjEnd.TheVariants as end
use Rattle.mm_objects.specs.declared.objects.ObjInstr.{ObjInstr}
use Rattle.mm_objects.specs.declared.objects.ObjInstr.TheVariants as instr
use Rattle.mm_objects.specs.declared.objects.ObjOperand.{ObjOperand}
use Rattle.mm_objects.specs.declared.objects.ObjOperand.TheVariants as operand
use Rattle.mm_objects.specs.declared.objects.ObjPlace.{ObjPlace}
use Rattle.mm_objects.specs.declared.objects.ObjRvalue.{ObjRvalue}
use Rattle.mm_objects.specs.declared.objects.ObjRvalue.TheVariants as rvalue
use Rattle.mm_objects.specs.declared.objects.ObjUnit.{ObjUnit}
use Rattle.mm_objects.specs.Resolution.{def_at, def_blocks, find_in}
use Rattle.mm_objects.specs.declared.target.Target.{Target}
use Rattle.mm_objects.specs.declared.target.VtableId.{VtableId}
use Rattle.mm_machines.specs.declared.trap.Obs.{Obs}
use Rattle.mm_machines.specs.declared.trap.Trap.TheVariants as trap
use Rattle.mm_machines.specs.Forms.{Shape, Find, Eval, Act, local, number, boolean, copy, move, negation, binary, set, print, goto, unreachable, trapped, switch, call, return}
use Rattle.mm_machines.specs.Runs.{Code, placed_at, or_nowhere, observed}

-- ---- definitions

-- its parameters and locals. One that is not there has the local of the result alone
abbrev pub def_shape : Option ObjDef → Shape
def_shape None = record { params = 0; locals = 1 }
def_shape (Some (Compiled symbol link params locals blocks)) = record { params = params; locals = locals }

-- ---- what each form of a definition does

abbrev pub base_of : Target → ObjBase → Find Target VtableId
base_of t (Local k) = local Target VtableId k

abbrev pub image_place : Target → ObjPlace → Find Target VtableId
image_place t place = base_of t place.base

abbrev pub image_operand : Target → ObjOperand → Eval Target VtableId
image_operand t (operand.Copy place) = copy Target VtableId (image_place t place)
image_operand t (operand.Move place) = move Target VtableId (image_place t place)
image_operand t (operand.Num n) = number Target VtableId n
image_operand t (operand.Truth b) = boolean Target VtableId b

abbrev pub image_rvalue : Target → ObjRvalue → Eval Target VtableId
image_rvalue t (rvalue.Use o) = image_operand t o
image_rvalue t (rvalue.Not o) = negation Target VtableId (image_operand t o)
image_rvalue t (rvalue.Binary op a b) = binary Target VtableId op (image_operand t a) (image_operand t b)

abbrev pub image_instr : Target → ObjInstr → Act Target VtableId
image_instr t (instr.Set place r) = set Target VtableId (image_place t place) (image_rvalue t r)
image_instr t (instr.Print o) = print Target VtableId (image_operand t o)

-- a symbol that names nothing is called in vain
abbrev pub call_found : List ObjUnit → Option Target → List (Eval Target VtableId) → Find Target VtableId → ℕ → Act Target VtableId
call_found us None es find label = trapped Target VtableId trap.Dangling
call_found us (Some u) es find label = call Target VtableId u (def_shape (def_at us u)) es find label

abbrev pub image_call : List ObjUnit → Target → ObjCallee → List (Eval Target VtableId) → Find Target VtableId → ℕ → Act Target VtableId
image_call us t (callee.Fn symbol) es find label = call_found us (find_in us t.unit symbol) es find label

abbrev pub image_end : List ObjUnit → Target → ObjEnd → Act Target VtableId
image_end us t end.Return = return Target VtableId
image_end us t end.Unreachable = unreachable Target VtableId
image_end us t (end.Goto label) = goto Target VtableId label
image_end us t (end.Switch o arms other) = switch Target VtableId (image_operand t o) arms other
image_end us t (end.Call place c os label) = image_call us t c (map (image_operand t) os) (image_place t place) label

abbrev pub image_block : List ObjUnit → Target → ℕ → ObjBlock → Act Target VtableId
image_block us t index b = placed_at Target VtableId (image_instr t) (image_end us t b.end) (slice_get b.instrs index)

-- the machine: what stands at each place of each definition
abbrev pub image : List ObjUnit → Code Target VtableId
image us t block index = or_nowhere Target VtableId (image_block us t index) (slice_get (def_blocks (def_at us t)) block)

-- what is seen of the units after n steps, where the run begins with a definition
abbrev pub observed_image : List ObjUnit → Target → ℕ → Obs
observed_image us main n = observed Target VtableId (image us) main (def_shape (def_at us main)) n
