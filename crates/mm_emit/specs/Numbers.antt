-- That the numbers that are written out in objects are below 2^64.
use Rattle.std.specs.Prelude.{◌<◌, ◌^◌, All, ⊤}
use Rattle.mm_plain.specs.declared.program.Arm.{Arm}
use Rattle.mm_objects.specs.declared.objects.Objects.{Objects}
use Rattle.mm_objects.specs.declared.objects.ObjUnit.{ObjUnit}
use Rattle.mm_objects.specs.declared.objects.ObjDef.{ObjDef}
use Rattle.mm_objects.specs.declared.objects.ObjDef.TheVariants.{Code}
use Rattle.mm_objects.specs.declared.objects.ObjBlock.{ObjBlock}
use Rattle.mm_objects.specs.declared.objects.ObjInstr.{ObjInstr}
use Rattle.mm_objects.specs.declared.objects.ObjInstr.TheVariants as instr
use Rattle.mm_objects.specs.declared.objects.ObjRvalue.{ObjRvalue}
use Rattle.mm_objects.specs.declared.objects.ObjRvalue.TheVariants as rvalue
use Rattle.mm_objects.specs.declared.objects.ObjOperand.{ObjOperand}
use Rattle.mm_objects.specs.declared.objects.ObjOperand.TheVariants as operand
use Rattle.mm_objects.specs.declared.objects.ObjEnd.{ObjEnd}
use Rattle.mm_objects.specs.declared.objects.ObjEnd.TheVariants as end

abbrev pub FitsOperand : ObjOperand → Type 0
FitsOperand (operand.Copy place) = ⊤
FitsOperand (operand.Move place) = ⊤
FitsOperand (operand.Num n) = n < 2 ^ 64
FitsOperand (operand.Truth b) = ⊤

abbrev pub FitsRvalue : ObjRvalue → Type 0
FitsRvalue (rvalue.Use a) = FitsOperand a
FitsRvalue (rvalue.Not a) = FitsOperand a
FitsRvalue (rvalue.Binary op a b) = FitsOperand a × FitsOperand b

abbrev pub FitsInstr : ObjInstr → Type 0
FitsInstr (instr.Set place value) = FitsRvalue value
FitsInstr (instr.Print a) = FitsOperand a

abbrev pub FitsArm : Arm → Type 0
FitsArm arm = arm.number < 2 ^ 64

abbrev pub FitsEnd : ObjEnd → Type 0
FitsEnd end.Return = ⊤
FitsEnd end.Unreachable = ⊤
FitsEnd (end.Goto label) = ⊤
FitsEnd (end.Switch a arms label) = FitsOperand a × All FitsArm arms
FitsEnd (end.Call place callee args label) = All FitsOperand args

abbrev pub FitsBlock : ObjBlock → Type 0
FitsBlock block = All FitsInstr block.instrs × FitsEnd block.end

abbrev pub FitsDef : ObjDef → Type 0
FitsDef (Code symbol link params locals blocks) = All FitsBlock blocks

abbrev pub FitsUnit : ObjUnit → Type 0
FitsUnit unit = All FitsDef unit.defs

-- each number that is written out in the objects is below 2^64
abbrev pub NumbersFit : Objects → Type 0
NumbersFit objects = All FitsUnit objects.units
