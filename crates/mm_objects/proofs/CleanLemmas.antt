-- No blank and no line end stands in a word of the lines of objects, and no line is without words.
use Rattle.std.proofs.Common.{◌≡◌, ◌≢◌, ℕ, ◌<◌, ◌^◌, ◌+◌, true, false, List, [], ◌∷◌, ◌++◌, length, map, codes, All, refl, arith, flat_map}
use Rattle.std.specs.List.{list_all, enumerate_from}
use Rattle.std.specs.Fmt.{decimal}
use Rattle.std.proofs.lemmas.List.Elements.{All-nil, All-cons, All-head, All-tail, All-append}
use Rattle.std.proofs.lemmas.List.Folds.{list_all-append}
use Rattle.mm_plain.specs.declared.program.Op.{Op}
use Rattle.mm_plain.specs.declared.program.Op.TheVariants.{Add, Sub, Mul, Div, Rem, Eq, Lt}
use Rattle.mm_plain.specs.declared.program.Arm.{Arm}
use Rattle.mm_objects.specs.declared.objects.Objects.{Objects}
use Rattle.mm_objects.specs.declared.objects.ObjUnit.{ObjUnit}
use Rattle.mm_objects.specs.declared.objects.ObjDef.{ObjDef}
use Rattle.mm_objects.specs.declared.objects.ObjDef.TheVariants.{Code}
use Rattle.mm_objects.specs.declared.objects.Linkage.{Linkage}
use Rattle.mm_objects.specs.declared.objects.Linkage.TheVariants.{External, Internal}
use Rattle.mm_objects.specs.declared.objects.ObjBlock.{ObjBlock}
use Rattle.mm_objects.specs.declared.objects.ObjInstr.{ObjInstr}
use Rattle.mm_objects.specs.declared.objects.ObjInstr.TheVariants as instrs
use Rattle.mm_objects.specs.declared.objects.ObjPlace.{ObjPlace}
use Rattle.mm_objects.specs.declared.objects.ObjBase.{ObjBase}
use Rattle.mm_objects.specs.declared.objects.ObjBase.TheVariants as bases
use Rattle.mm_objects.specs.declared.objects.ObjRvalue.{ObjRvalue}
use Rattle.mm_objects.specs.declared.objects.ObjRvalue.TheVariants as rvalues
use Rattle.mm_objects.specs.declared.objects.ObjOperand.{ObjOperand}
use Rattle.mm_objects.specs.declared.objects.ObjOperand.TheVariants as operands
use Rattle.mm_objects.specs.declared.objects.ObjEnd.{ObjEnd}
use Rattle.mm_objects.specs.declared.objects.ObjEnd.TheVariants as ends
use Rattle.mm_objects.specs.declared.objects.ObjCallee.{ObjCallee}
use Rattle.mm_objects.specs.declared.objects.ObjCallee.TheVariants as callees
use Rattle.mm_objects.specs.ObjectText.{Word, Line, base_text, place_text, operand_text, op_text, rvalue_words, instr_words, arm_text, callee_text, end_words, label_line, block_lines, linkage_text, fn_line, def_lines, unit_lines, first_line, main_line, last_line, lines_of}
use Rattle.mm_objects.specs.ObjectForms.{IsBase, IsPlace, IsOperand, IsRvalue, IsInstr, IsArm, IsCallee, IsEnd, IsBlock, IsDef, IsUnit, AreObjects}
use Rattle.mm_objects.proofs.UnitNames.{unit_name-graphic}
use Rattle.mm_objects.proofs.SymbolBytes.{is_graphic, IsClean, joined, number-clean, symbol-clean}

abbrev pub AreClean : Line → Type 0
AreClean ws = list_all (list_all is_graphic) ws ≡ true

-- words without blanks and line ends, and at least one
pub record IsCleanLine (ws : Line) : Type 0 where
  pub some : ws ≢ []
  pub each : AreClean ws

-- a line that has a first word
begins : (w : Word) (ws : Line) → AreClean (w ∷ ws) → IsCleanLine (w ∷ ws)
begins w ws each = record { some = λ h. absurd (cc); each = each }

-- ---- words

base-clean : (locals : ℕ) (base : ObjBase) → IsBase locals base → IsClean (base_text base)
base-clean locals (bases.Local n) is = joined (codes "_") (decimal n) refl (number-clean n (omega (arith, is.1)))

place-clean : (locals : ℕ) (place : ObjPlace) → IsPlace locals place → IsClean (place_text place)
place-clean locals place is = base-clean locals place.base is

operand-clean : (locals : ℕ) (a : ObjOperand) → IsOperand locals a → IsClean (operand_text a)
operand-clean locals (operands.Copy place) is = joined (codes "copy:") (place_text place) refl (place-clean locals place is)
operand-clean locals (operands.Move place) is = joined (codes "move:") (place_text place) refl (place-clean locals place is)
operand-clean locals (operands.Num n) is = number-clean n is
operand-clean locals (operands.Truth true) is = refl
operand-clean locals (operands.Truth false) is = refl

op-clean : (op : Op) → IsClean (op_text op)
op-clean Add = refl
op-clean Sub = refl
op-clean Mul = refl
op-clean Div = refl
op-clean Rem = refl
op-clean Eq = refl
op-clean Lt = refl

arm-clean : (blocks : ℕ) (arm : Arm) → IsArm blocks arm → IsClean (arm_text arm)
arm-clean blocks arm is = joined (decimal arm.number ++ codes ":") (decimal arm.label) (joined (decimal arm.number) (codes ":") (number-clean arm.number is.0) refl) (number-clean arm.label (omega (arith, is.1.1)))

callee-clean : (callee : ObjCallee) → IsCallee callee → IsClean (callee_text callee)
callee-clean (callees.Fn symbol) is = joined (codes "fn:") symbol refl (symbol-clean symbol is)

linkage-clean : (link : Linkage) → IsClean (linkage_text link)
linkage-clean External = refl
linkage-clean Internal = refl

each-clean : {A : Type 0} (Is : A → Type 0) (spell : A → Word) → ((a : A) → Is a → IsClean (spell a)) → (things : List A) → All Is things → AreClean (map spell things)
each-clean Is spell one [] all = refl
each-clean Is spell one (a ∷ others) all = rw (one a (All-head Is a others all), each-clean Is spell one others (All-tail Is a others all)) refl

arms-clean : (blocks : ℕ) (arms : List Arm) → All (IsArm blocks) arms → AreClean (map arm_text arms)
arms-clean blocks arms all = each-clean (IsArm blocks) arm_text (arm-clean blocks) arms all

args-clean : (locals : ℕ) (args : List ObjOperand) → All (IsOperand locals) args → AreClean (map operand_text args)
args-clean locals args all = each-clean (IsOperand locals) operand_text (operand-clean locals) args all

-- ---- lines

rvalue-clean : (locals : ℕ) (value : ObjRvalue) → IsRvalue locals value → AreClean (rvalue_words value)
rvalue-clean locals (rvalues.Use a) is = rw (operand-clean locals a is) refl
rvalue-clean locals (rvalues.Not a) is = rw (operand-clean locals a is) refl
rvalue-clean locals (rvalues.Binary op a b) is = rw (op-clean op, operand-clean locals a is.0, operand-clean locals b is.1) refl

instr-clean : (locals : ℕ) (instr : ObjInstr) → IsInstr locals instr → IsCleanLine (instr_words instr)
instr-clean locals (instrs.Set place value) is = begins (codes "set") (place_text place ∷ rvalue_words value) (rw (place-clean locals place is.0, rvalue-clean locals value is.1) refl)
instr-clean locals (instrs.Print a) is = begins (codes "print") (operand_text a ∷ []) (rw (operand-clean locals a is) refl)

end-clean : (locals blocks : ℕ) (e : ObjEnd) → IsEnd locals blocks e → IsCleanLine (end_words e)
end-clean locals blocks ends.Return is = begins (codes "return") [] refl
end-clean locals blocks ends.Unreachable is = begins (codes "unreachable") [] refl
end-clean locals blocks (ends.Goto k) is = begins (codes "goto") (decimal k ∷ []) (rw (number-clean k (omega (arith, is.1))) refl)
end-clean locals blocks (ends.Switch a arms k) is =
    begins (codes "switch") (operand_text a ∷ (map arm_text arms ++ codes "else" ∷ decimal k ∷ []))
    (rw (operand-clean locals a is.0, list_all-append (list_all is_graphic) (map arm_text arms) (codes "else" ∷ decimal k ∷ []), arms-clean blocks arms is.1, number-clean k (omega (arith, is.2.1))) refl)
end-clean locals blocks (ends.Call place callee args k) is =
    begins (codes "call") (place_text place ∷ callee_text callee ∷ (map operand_text args ++ codes "->" ∷ decimal k ∷ []))
    (rw (place-clean locals place is.0, callee-clean callee is.1, list_all-append (list_all is_graphic) (map operand_text args) (codes "->" ∷ decimal k ∷ []), args-clean locals args is.2, number-clean k (omega (arith, is.3.1))) refl)

all-lines : {A : Type 0} (Is : A → Type 0) (spell : A → List Line) → ((a : A) → Is a → All IsCleanLine (spell a)) → (things : List A) → All Is things → All IsCleanLine (flat_map spell things)
all-lines Is spell one [] all = All-nil IsCleanLine
all-lines Is spell one (a ∷ others) all = All-append IsCleanLine (spell a) (flat_map spell others) (one a (All-head Is a others all)) (all-lines Is spell one others (All-tail Is a others all))

instrs-clean : (locals : ℕ) (instrs : List ObjInstr) → All (IsInstr locals) instrs → All IsCleanLine (map instr_words instrs)
instrs-clean locals [] all = All-nil IsCleanLine
instrs-clean locals (i ∷ others) all = All-cons IsCleanLine (instr_words i) (map instr_words others) (instr-clean locals i (All-head (IsInstr locals) i others all)) (instrs-clean locals others (All-tail (IsInstr locals) i others all))

block-clean : (locals blocks k : ℕ) (b : ObjBlock) → k < 2 ^ 64 → IsBlock locals blocks b → All IsCleanLine (block_lines (k, b))
block-clean locals blocks k b fits is =
    All-cons IsCleanLine (label_line k) (map instr_words b.instrs ++ end_words b.end ∷ []) (begins (codes "bb" ++ decimal k) [] (let c : IsClean (codes "bb" ++ decimal k) = joined (codes "bb") (decimal k) refl (number-clean k fits) in rw c refl))
    (All-append IsCleanLine (map instr_words b.instrs) (end_words b.end ∷ []) (instrs-clean locals b.instrs is.instrs) (All-cons IsCleanLine (end_words b.end) [] (end-clean locals blocks b.end is.end) (All-nil IsCleanLine)))

blocks-clean : (locals blocks k : ℕ) (bs : List ObjBlock) → k + length bs < 2 ^ 64 → All (IsBlock locals blocks) bs → All IsCleanLine (flat_map block_lines (enumerate_from k bs))
blocks-clean locals blocks k [] fits all = All-nil IsCleanLine
blocks-clean locals blocks k (b ∷ bs) fits all =
    All-append IsCleanLine (block_lines (k, b)) (flat_map block_lines (enumerate_from (k + 1) bs)) (block-clean locals blocks k b (omega (arith, fits)) (All-head (IsBlock locals blocks) b bs all))
    (blocks-clean locals blocks (k + 1) bs (omega (arith, fits)) (All-tail (IsBlock locals blocks) b bs all))

def-clean : (d : ObjDef) → IsDef d → All IsCleanLine (def_lines d)
def-clean (Code symbol link params locals blocks) is =
    All-cons IsCleanLine (fn_line symbol link params locals (length blocks)) (flat_map block_lines (enumerate_from 0 blocks))
    (begins (codes "fn") (symbol ∷ linkage_text link ∷ decimal params ∷ decimal locals ∷ decimal (length blocks) ∷ [])
    (rw (symbol-clean symbol is.symbol_is, linkage-clean link, number-clean params (omega (arith, is.above_params, is.few_locals)), number-clean locals (omega (arith, is.few_locals)), number-clean (length blocks) is.few_blocks) refl))
    (blocks-clean locals (length blocks) 0 blocks (omega (arith, is.few_blocks)) is.each)

unit-clean : (u : ObjUnit) → IsUnit u → All IsCleanLine (unit_lines u)
unit-clean u is =
    All-cons IsCleanLine (codes "unit" ∷ u.name ∷ []) (flat_map def_lines u.defs) (begins (codes "unit") (u.name ∷ []) (rw (unit_name-graphic u.name is.name_is) refl)) (all-lines IsDef def_lines def-clean u.defs is.each)

pub lines-clean : (o : Objects) → AreObjects o → All IsCleanLine (lines_of o)
lines-clean o are =
    let units = flat_map unit_lines o.units ++ last_line ∷ [] in
    All-cons IsCleanLine first_line (main_line o.main ∷ units) (begins (codes "objects") (codes "1" ∷ []) refl)
    (All-cons IsCleanLine (main_line o.main) units (begins (codes "main") (o.main ∷ []) (rw (symbol-clean o.main are.main_is) refl))
    (All-append IsCleanLine (flat_map unit_lines o.units) (last_line ∷ []) (all-lines IsUnit unit_lines unit-clean o.units are.each) (All-cons IsCleanLine last_line [] (begins (codes "end") [] refl) (All-nil IsCleanLine))))
