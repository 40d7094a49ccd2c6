-- Which objects have a text, and which bytes are object text.
use Rattle.std.specs.Prelude.{◌≡◌, ℕ, ◌<◌, ◌≤◌, ◌^◌, ◌+◌, List, [], ◌∷◌, ◌++◌, length, All, flat_map}
use Rattle.mm_plain.specs.declared.program.Arm.{Arm}
use Rattle.mm_objects.specs.declared.objects.Objects.{Objects}
use Rattle.mm_objects.specs.declared.objects.ObjUnit.{ObjUnit}
use Rattle.mm_objects.specs.declared.objects.ObjDef.{ObjDef}
use Rattle.mm_objects.specs.declared.objects.ObjDef.TheVariants.{Code}
use Rattle.mm_objects.specs.declared.objects.ObjBlock.{ObjBlock}
use Rattle.mm_objects.specs.declared.objects.ObjInstr.{ObjInstr}
use Rattle.mm_objects.specs.declared.objects.ObjInstr.TheVariants as instrs
use Rattle.mm_objects.specs.declared.objects.ObjPlace.{ObjPlace}
use Rattle.mm_objects.specs.declared.objects.ObjBase.{ObjBase}
use Rattle.mm_objects.specs.declared.objects.ObjBase.TheVariants as bases
use Rattle.mm_objects.specs.declared.objects.ObjRvalue.{ObjRvalue}
use Rattle.mm_objects.specs.declared.objects.ObjRvalue.TheVariants as rvalues
use Rattle.mm_objects.specs.declared.objects.ObjOperand.{ObjOperand}
use Rattle.mm_objects.specs.declared.objects.ObjOperand.TheVariants as operands
use Rattle.mm_objects.specs.declared.objects.ObjEnd.{ObjEnd}
use Rattle.mm_objects.specs.declared.objects.ObjEnd.TheVariants as ends
use Rattle.mm_objects.specs.declared.objects.ObjCallee.{ObjCallee}
use Rattle.mm_objects.specs.declared.objects.ObjCallee.TheVariants as callees
use Rattle.mm_objects.specs.ObjectNames.{IsCodeSymbol, IsUnitName}
use Rattle.mm_objects.specs.ObjectText.{objects_text}

-- a number below the limit, and below 2^32 in any case
abbrev pub IsBelow : ℕ → ℕ → Type 0
IsBelow limit n = (n < limit) × (n < 2 ^ 32)

-- a local is one of so many
abbrev pub IsBase : ℕ → ObjBase → Type 0
IsBase locals (bases.Local n) = IsBelow locals n

abbrev pub IsPlace : ℕ → ObjPlace → Type 0
IsPlace locals place = IsBase locals place.base

abbrev pub IsOperand : ℕ → ObjOperand → Type 0
IsOperand locals (operands.Copy place) = IsPlace locals place
IsOperand locals (operands.Move place) = IsPlace locals place
IsOperand locals (operands.Num n) = n < 2 ^ 64
IsOperand locals (operands.Truth b) = Unit {0}

abbrev pub IsRvalue : ℕ → ObjRvalue → Type 0
IsRvalue locals (rvalues.Use a) = IsOperand locals a
IsRvalue locals (rvalues.Not a) = IsOperand locals a
IsRvalue locals (rvalues.Binary op a b) = IsOperand locals a × IsOperand locals b

abbrev pub IsInstr : ℕ → ObjInstr → Type 0
IsInstr locals (instrs.Set place value) = IsPlace locals place × IsRvalue locals value
IsInstr locals (instrs.Print a) = IsOperand locals a

-- an arm resolves to one of so many blocks
abbrev pub IsArm : ℕ → Arm → Type 0
IsArm blocks arm = (arm.number < 2 ^ 64) × IsBelow blocks arm.label

abbrev pub IsCallee : ObjCallee → Type 0
IsCallee (callees.Fn symbol) = IsCodeSymbol symbol

abbrev pub IsEnd : ℕ → ℕ → ObjEnd → Type 0
IsEnd locals blocks ends.Return = Unit {0}
IsEnd locals blocks ends.Unreachable = Unit {0}
IsEnd locals blocks (ends.Goto k) = IsBelow blocks k
IsEnd locals blocks (ends.Switch a arms k) = IsOperand locals a × All (IsArm blocks) arms × IsBelow blocks k
IsEnd locals blocks (ends.Call place callee args k) = IsPlace locals place × IsCallee callee × All (IsOperand locals) args × IsBelow blocks k

-- a block of a function with so many locals and so many blocks
pub record IsBlock (locals blocks : ℕ) (block : ObjBlock) : Type 0 where
  pub instrs : All (IsInstr locals) block.instrs
  pub end : IsEnd locals blocks block.end

-- The locals are the result, the parameters and the others, at most 65,536 in all. There is a block.
pub record IsCode (symbol : List ℕ) (params locals : ℕ) (blocks : List ObjBlock) : Type 0 where
  pub symbol_is : IsCodeSymbol symbol
  pub above_params : params < locals
  pub few_locals : locals ≤ 65536
  pub some_block : 0 < length blocks
  pub few_blocks : length blocks < 2 ^ 64
  pub each : All (IsBlock locals (length blocks)) blocks

abbrev pub IsDef : ObjDef → Type 0
IsDef (Code symbol link params locals blocks) = IsCode symbol params locals blocks

pub record IsUnit (unit : ObjUnit) : Type 0 where
  pub name_is : IsUnitName unit.name
  pub each : All IsDef unit.defs

-- the objects that have a text
pub record AreObjects (o : Objects) : Type 0 where
  pub main_is : IsCodeSymbol o.main
  pub each : All IsUnit o.units

-- the bytes are the text of these objects
pub record IsObjectText (bytes : List ℕ) (o : Objects) : Type 0 where
  pub are : AreObjects o
  pub is : bytes ≡ objects_text o

-- the same, and there is one unit: for now no other texts are read
pub record IsUnitText (bytes : List ℕ) (o : Objects) : Type 0 where
  pub text : IsObjectText bytes o
  pub one_unit : length o.units ≡ 1

-- some such text begins with these bytes
pub record CanBegin (prefix : List ℕ) : Type 0 where
  pub behind : List ℕ
  pub objects : Objects
  pub text : IsUnitText (prefix ++ behind) objects

-- the bytes of a line
abbrev pub IsWithinLine : List ℕ → Type 0
IsWithinLine line = All (λ b. b ≡ 10 → ⊥) line

-- the bytes begin with so many lines, each with its LF, and these lines are the front
pub record AreFirstLines (n : ℕ) (prefix bytes : List ℕ) : Type 0 where
  pub lines : List (List ℕ)
  pub behind : List ℕ
  pub count : length lines ≡ n
  pub within : All IsWithinLine lines
  pub prefix_is : prefix ≡ flat_map (λ line. line ++ 10 ∷ []) lines
  pub is : bytes ≡ prefix ++ behind

-- The bytes are no such text, and the line with the number, from 1, is to blame: some such text begins with the lines
-- before it, and none begins with the lines up to it; it may be the line that is missing behind the last.
pub record IsBadAt (line : ℕ) (bytes : List ℕ) : Type 0 where
  pub none : (o : Objects) → IsUnitText bytes o → ⊥
  pub before : ℕ
  pub follows : line ≡ before + 1
  pub prefix : List ℕ
  pub lines : AreFirstLines before prefix bytes
  pub can : CanBegin prefix
  pub cannot : (longer : List ℕ) → AreFirstLines line longer bytes → CanBegin longer → ⊥
