-- Reading object text line by line: what is read so far, and what a further line makes of it.
use Rattle.std.specs.Prelude.{ℕ, ◌==◌, ◌+◌, ◌&&◌, Bool, cond, List, [], ◌∷◌, ◌++◌, length, codes, Option, Some, None, Result, Ok, Err}
use Rattle.std.specs.List.{slice_split}
use Rattle.std.specs.Str.{bytes_eq}
use Rattle.mm_objects.specs.declared.objects.Objects.{Objects}
use Rattle.mm_objects.specs.declared.objects.ObjUnit.{ObjUnit}
use Rattle.mm_objects.specs.declared.objects.ObjDef.{ObjDef}
use Rattle.mm_objects.specs.declared.objects.ObjDef.TheVariants as defs
use Rattle.mm_objects.specs.declared.objects.ObjBlock.{ObjBlock}
use Rattle.mm_objects.specs.declared.objects.ObjInstr.{ObjInstr}
use Rattle.mm_objects.specs.declared.progress.OpenUnit.{OpenUnit}
use Rattle.mm_objects.specs.declared.progress.OpenCode.{OpenCode}
use Rattle.mm_objects.specs.declared.progress.Progress.{Progress}
use Rattle.mm_objects.specs.declared.progress.Progress.TheVariants as at
use Rattle.mm_objects.specs.ObjectText.{Line}
use Rattle.mm_objects.specs.LineReading.{◌>>=◌, first_of, only_of, if_done, named_in, symbol_in, unit_name_in, header_in, label_in, instr_in, end_in}

-- ---- what is made of what was read

abbrev pub closed_unit : OpenUnit → ObjUnit
closed_unit u = record { name = u.name; defs = u.defs }

-- the objects, where no unit comes behind this one
abbrev pub objects_with : OpenUnit → Objects
objects_with u = record { main = u.main; units = u.units ++ closed_unit u ∷ [] }

abbrev pub closed_code : OpenCode → ObjDef
closed_code c = defs.Code c.header.symbol c.header.link c.header.params c.header.locals c.blocks

abbrev pub with_def : OpenUnit → ObjDef → OpenUnit
with_def u def = record { main = u.main; units = u.units; name = u.name; defs = u.defs ++ def ∷ [] }

abbrev pub with_block : OpenCode → ObjBlock → OpenCode
with_block c block = record { unit = c.unit; header = c.header; blocks = c.blocks ++ block ∷ [] }

-- the function is whole where it has all its blocks
unfoldable pub settled : OpenCode → Progress
settled c = cond (length c.blocks == c.header.blocks) (at.«Unit» (with_def c.unit (closed_code c))) (at.Code c)

-- ---- a further line

unfoldable pub head_in : Line → Option Progress
head_in words = do
  version ← named_in (codes "objects") words
  cond (bytes_eq version (codes "1")) (Some at.Headed) None

unfoldable pub main_in : Line → Option Progress
main_in words = do
  word ← named_in (codes "main") words
  symbol ← symbol_in word
  Some (at.Main symbol)

-- the line that begins a unit, behind its first word
unfoldable pub unit_in : List ℕ → List ObjUnit → Line → Option Progress
unit_in main units words = do
  word ← only_of words
  name ← unit_name_in word
  Some (at.«Unit» (record { main = main; units = units; name = name; defs = [] }))

-- without several units there is one
unfoldable pub behind_main_in : Bool → List ℕ → Line → Option Progress
behind_main_in several main words = first_of words >>= λ x.
    cond (bytes_eq x.0 (codes "unit")) (unit_in main [] x.1)
    (cond (several && bytes_eq x.0 (codes "end")) (if_done (at.Done (record { main = main; units = [] })) x.1) None)

unfoldable pub code_in : OpenUnit → Line → Option Progress
code_in u words = header_in words >>= λ header. Some (at.Code (record { unit = u; header = header; blocks = [] }))

unfoldable pub behind_def_in : Bool → OpenUnit → Line → Option Progress
behind_def_in several u words = first_of words >>= λ x.
    cond (bytes_eq x.0 (codes "fn")) (code_in u x.1)
    (cond (bytes_eq x.0 (codes "end")) (if_done (at.Done (objects_with u)) x.1)
    (cond (several && bytes_eq x.0 (codes "unit")) (unit_in u.main (objects_with u).units x.1) None))

unfoldable pub block_in : OpenCode → Line → Option Progress
block_in c words = label_in (length c.blocks) words >>= λ k. Some (at.Block c [])

abbrev pub instr_or_end : OpenCode → List ObjInstr → Option ObjInstr → Line → Option Progress
instr_or_end c instrs (Some instr) words = Some (at.Block c (instrs ++ instr ∷ []))
instr_or_end c instrs None words = end_in c.header.locals c.header.blocks words >>= λ end. Some (settled (with_block c (record { instrs = instrs; end = end })))

unfoldable pub within_block_in : OpenCode → List ObjInstr → Line → Option Progress
within_block_in c instrs words = instr_or_end c instrs (instr_in c.header.locals words) words

-- what a further line makes of what was read; without `several` there is one unit
unfoldable pub next_in : Bool → Progress → Line → Option Progress
next_in several at.Start words = head_in words
next_in several at.Headed words = main_in words
next_in several (at.Main main) words = behind_main_in several main words
next_in several (at.«Unit» u) words = behind_def_in several u words
next_in several (at.Code c) words = block_in c words
next_in several (at.Block c instrs) words = within_block_in c instrs words
next_in several (at.Done o) words = None

-- what lines make of what was read
unfoldable pub run_in : Bool → Progress → List Line → Option Progress
run_in several progress [] = Some progress
run_in several progress (line ∷ lines) = next_in several progress line >>= λ next. run_in several next lines

-- ---- all lines

-- what was read, or the number of the line that does not fit
abbrev pub at_line : {A : Type 0} → ℕ → Option A → Result A ℕ
at_line n None = Err n
at_line n (Some a) = Ok a

abbrev pub then : {A B : Type 0} → Result A ℕ → (A → Result B ℕ) → Result B ℕ
then (Ok a) go = go a
then (Err n) go = Err n

-- the words of a line
abbrev pub words_in : List ℕ → Line
words_in line = slice_split (λ b. b == 32) line

-- what lines make of what was read, or the number of the first line that does not fit, where the next line has this number
unfoldable pub follow : Bool → ℕ → Progress → List (List ℕ) → Result Progress ℕ
follow several n progress [] = Ok progress
follow several n progress (line ∷ lines) = then (at_line n (next_in several progress (words_in line))) (λ next. follow several (n + 1) next lines)

abbrev pub done_of : Progress → Option Objects
done_of at.Start = None
done_of at.Headed = None
done_of (at.Main main) = None
done_of (at.«Unit» u) = None
done_of (at.Code c) = None
done_of (at.Block c instrs) = None
done_of (at.Done o) = Some o

abbrev pub if_none : {A B : Type 0} → List A → Option B → Option B
if_none [] o = o
if_none (x ∷ xs) o = None

-- the objects of lines and of the bytes behind the last LF, of which there are none
unfoldable pub text_in : Bool → List (List ℕ) → List ℕ → Result Objects ℕ
text_in several lines last = then (follow several 1 at.Start lines) (λ progress. at_line (length lines + 1) (if_none last (done_of progress)))
