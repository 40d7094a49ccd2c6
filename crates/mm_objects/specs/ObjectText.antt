-- The text of objects. Its lines end with LF, and the words of a line are separated by one blank. In the rules braces repeat,
-- and what stands in brackets is replaced:
--
--     objects 1
--     main <symbol>
--     { unit <name>
--       { <definition> } }
--     end
--
-- A definition is a line
--
--     fn <symbol> <linkage> <number of parameters> <number of locals> <number of blocks>
--
-- and then its blocks: a line bb<k>, with k from 0 in order, a line for each instruction, and a line for the end.
--
--     place        _<n>
--     operand      copy:<place>   move:<place>   <number>   true   false
--     instruction  set <place> <value>   print <operand>
--     value        use <operand>   not <operand>   add <operand> <operand>, and so sub, mul, div, rem, eq and lt
--     end          return   unreachable   goto <k>   switch <operand> { <number>:<k> } else <k>
--                  call <place> <callee> { <operand> } -> <k>
--     callee       fn:<symbol>
use Rattle.std.specs.Prelude.{ℕ, Bool, true, false, List, [], ◌∷◌, ◌++◌, length, map, flat_map, codes, decimal}
use Rattle.std.specs.List.{enumerate_from, join_with_byte}
use Rattle.mm_plain.specs.declared.program.Op.{Op}
use Rattle.mm_plain.specs.declared.program.Op.TheVariants.{Add, Sub, Mul, Div, Rem, Eq, Lt}
use Rattle.mm_plain.specs.declared.program.Arm.{Arm}
use Rattle.mm_objects.specs.declared.objects.Objects.{Objects}
use Rattle.mm_objects.specs.declared.objects.ObjUnit.{ObjUnit}
use Rattle.mm_objects.specs.declared.objects.ObjDef.{ObjDef}
use Rattle.mm_objects.specs.declared.objects.ObjDef.TheVariants.{Code}
use Rattle.mm_objects.specs.declared.objects.Linkage.{Linkage}
use Rattle.mm_objects.specs.declared.objects.Linkage.TheVariants.{External, Internal}
use Rattle.mm_objects.specs.declared.objects.ObjBlock.{ObjBlock}
use Rattle.mm_objects.specs.declared.objects.ObjInstr.{ObjInstr}
use Rattle.mm_objects.specs.declared.objects.ObjInstr.TheVariants as instrs
use Rattle.mm_objects.specs.declared.objects.ObjPlace.{ObjPlace}
use Rattle.mm_objects.specs.declared.objects.ObjBase.{ObjBase}
use Rattle.mm_objects.specs.declared.objects.ObjBase.TheVariants as bases
use Rattle.mm_objects.specs.declared.objects.ObjRvalue.{ObjRvalue}
use Rattle.mm_objects.specs.declared.objects.ObjRvalue.TheVariants as rvalues
use Rattle.mm_objects.specs.declared.objects.ObjOperand.{ObjOperand}
use Rattle.mm_objects.specs.declared.objects.ObjOperand.TheVariants as operands
use Rattle.mm_objects.specs.declared.objects.ObjEnd.{ObjEnd}
use Rattle.mm_objects.specs.declared.objects.ObjEnd.TheVariants as ends
use Rattle.mm_objects.specs.declared.objects.ObjCallee.{ObjCallee}
use Rattle.mm_objects.specs.declared.objects.ObjCallee.TheVariants as callees

abbrev pub Word : Type 0
Word = List ℕ

abbrev pub Line : Type 0
Line = List Word

abbrev pub base_text : ObjBase → Word
base_text (bases.Local n) = codes "_" ++ decimal n

abbrev pub place_text : ObjPlace → Word
place_text place = base_text place.base

abbrev pub truth_text : Bool → Word
truth_text true = codes "true"
truth_text false = codes "false"

abbrev pub operand_text : ObjOperand → Word
operand_text (operands.Copy place) = codes "copy:" ++ place_text place
operand_text (operands.Move place) = codes "move:" ++ place_text place
operand_text (operands.Num n) = decimal n
operand_text (operands.Truth b) = truth_text b

abbrev pub op_text : Op → Word
op_text Add = codes "add"
op_text Sub = codes "sub"
op_text Mul = codes "mul"
op_text Div = codes "div"
op_text Rem = codes "rem"
op_text Eq = codes "eq"
op_text Lt = codes "lt"

abbrev pub rvalue_words : ObjRvalue → Line
rvalue_words (rvalues.Use a) = codes "use" ∷ operand_text a ∷ []
rvalue_words (rvalues.Not a) = codes "not" ∷ operand_text a ∷ []
rvalue_words (rvalues.Binary op a b) = op_text op ∷ operand_text a ∷ operand_text b ∷ []

abbrev pub instr_words : ObjInstr → Line
instr_words (instrs.Set place value) = codes "set" ∷ place_text place ∷ rvalue_words value
instr_words (instrs.Print a) = codes "print" ∷ operand_text a ∷ []

abbrev pub arm_text : Arm → Word
arm_text arm = decimal arm.number ++ codes ":" ++ decimal arm.label

abbrev pub callee_text : ObjCallee → Word
callee_text (callees.Fn symbol) = codes "fn:" ++ symbol

abbrev pub end_words : ObjEnd → Line
end_words ends.Return = codes "return" ∷ []
end_words ends.Unreachable = codes "unreachable" ∷ []
end_words (ends.Goto k) = codes "goto" ∷ decimal k ∷ []
end_words (ends.Switch a arms k) = codes "switch" ∷ operand_text a ∷ (map arm_text arms ++ codes "else" ∷ decimal k ∷ [])
end_words (ends.Call place callee args k) = codes "call" ∷ place_text place ∷ callee_text callee ∷ (map operand_text args ++ codes "->" ∷ decimal k ∷ [])

-- the line before a block, by the block's number
abbrev pub label_line : ℕ → Line
label_line k = (codes "bb" ++ decimal k) ∷ []

-- the lines of a block with its number
abbrev pub block_lines : ℕ × ObjBlock → List Line
block_lines one = label_line one.0 ∷ (map instr_words one.1.instrs ++ end_words one.1.end ∷ [])

abbrev pub linkage_text : Linkage → Word
linkage_text External = codes "External"
linkage_text Internal = codes "Internal"

-- the first line of a function
abbrev pub fn_line : List ℕ → Linkage → ℕ → ℕ → ℕ → Line
fn_line symbol link params locals blocks = codes "fn" ∷ symbol ∷ linkage_text link ∷ decimal params ∷ decimal locals ∷ decimal blocks ∷ []

abbrev pub def_lines : ObjDef → List Line
def_lines (Code symbol link params locals blocks) = fn_line symbol link params locals (length blocks) ∷ flat_map block_lines (enumerate_from 0 blocks)

abbrev pub unit_lines : ObjUnit → List Line
unit_lines unit = (codes "unit" ∷ unit.name ∷ []) ∷ flat_map def_lines unit.defs

abbrev pub first_line : Line
first_line = codes "objects" ∷ codes "1" ∷ []

abbrev pub main_line : List ℕ → Line
main_line symbol = codes "main" ∷ symbol ∷ []

abbrev pub last_line : Line
last_line = codes "end" ∷ []

abbrev pub lines_of : Objects → List Line
lines_of o = first_line ∷ main_line o.main ∷ (flat_map unit_lines o.units ++ last_line ∷ [])

-- the words of a line with a blank between each two, and LF
abbrev pub line_text : Line → List ℕ
line_text words = join_with_byte 32 words ++ 10 ∷ []

-- the text of lines
abbrev pub written : List Line → List ℕ
written lines = flat_map line_text lines

-- the text of objects
unfoldable pub objects_text : Objects → List ℕ
objects_text o = written (lines_of o)
