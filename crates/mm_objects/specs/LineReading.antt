-- What each reader makes of words: the thing that they spell, where they spell one.
use Rattle.std.specs.Prelude.{ℕ, ◌-◌, ◌^◌, ◌==◌, ◌&&◌, ◌||◌, ltb, Bool, true, false, cond, List, [], ◌∷◌, length, take, drop, codes, Option, Some, None}
use Rattle.std.specs.List.{slice_split}
use Rattle.std.specs.Option.{option_or}
use Rattle.std.specs.Str.{bytes_eq}
use Rattle.mm_plain.specs.declared.program.Op.{Op}
use Rattle.mm_plain.specs.declared.program.Op.TheVariants.{Add, Sub, Mul, Div, Rem, Eq, Lt}
use Rattle.mm_plain.specs.declared.program.Arm.{Arm}
use Rattle.mm_names.specs.Decimals.{number_in}
use Rattle.mm_objects.specs.declared.objects.Linkage.{Linkage}
use Rattle.mm_objects.specs.declared.objects.Linkage.TheVariants.{External, Internal}
use Rattle.mm_objects.specs.declared.objects.ObjInstr.{ObjInstr}
use Rattle.mm_objects.specs.declared.objects.ObjInstr.TheVariants as instrs
use Rattle.mm_objects.specs.declared.objects.ObjPlace.{ObjPlace}
use Rattle.mm_objects.specs.declared.objects.ObjBase.TheVariants as bases
use Rattle.mm_objects.specs.declared.objects.ObjRvalue.{ObjRvalue}
use Rattle.mm_objects.specs.declared.objects.ObjRvalue.TheVariants as rvalues
use Rattle.mm_objects.specs.declared.objects.ObjOperand.{ObjOperand}
use Rattle.mm_objects.specs.declared.objects.ObjOperand.TheVariants as operands
use Rattle.mm_objects.specs.declared.objects.ObjEnd.{ObjEnd}
use Rattle.mm_objects.specs.declared.objects.ObjEnd.TheVariants as ends
use Rattle.mm_objects.specs.declared.objects.ObjCallee.{ObjCallee}
use Rattle.mm_objects.specs.declared.objects.ObjCallee.TheVariants as callees
use Rattle.mm_objects.specs.declared.progress.Header.{Header}
use Rattle.mm_symbols.specs.declared.form.SymbolForm.{SymbolForm}
use Rattle.mm_symbols.specs.Reading as symbols
use Rattle.mm_objects.specs.ObjectNames.{is_code}
use Rattle.mm_names.specs.Runs.{is_name}
use Rattle.mm_objects.specs.ObjectText.{Word, Line}

infixl 10 ◌>>=◌
abbrev pub ◌>>=◌ : {A B : Type 0} → Option A → (A → Option B) → Option B
None >>= go = None
(Some a) >>= go = go a

-- ---- words

-- what stands behind a prefix
abbrev pub behind : List ℕ → Word → Option (List ℕ)
behind prefix word = cond (bytes_eq (take (length prefix) word) prefix) (Some (drop (length prefix) word)) None

-- a number below the limit, and below 2^32 in any case
unfoldable pub below_in : ℕ → Word → Option ℕ
below_in limit word = number_in (2 ^ 32 - 1) word >>= λ n. cond (ltb n limit) (Some n) None

unfoldable pub place_in : ℕ → Word → Option ObjPlace
place_in locals word = do
  digits ← behind (codes "_") word
  n ← below_in locals digits
  Some (record { base = bases.Local n })

unfoldable pub copied_in : ℕ → Word → Option ObjOperand
copied_in locals word = do
  spelled ← behind (codes "copy:") word
  place ← place_in locals spelled
  Some (operands.Copy place)

unfoldable pub moved_in : ℕ → Word → Option ObjOperand
moved_in locals word = do
  spelled ← behind (codes "move:") word
  place ← place_in locals spelled
  Some (operands.Move place)

unfoldable pub truth_in : Word → Option ObjOperand
truth_in word =
    cond (bytes_eq word (codes "true")) (Some (operands.Truth true))
    (cond (bytes_eq word (codes "false")) (Some (operands.Truth false)) None)

unfoldable pub literal_in : Word → Option ObjOperand
literal_in word = number_in (2 ^ 64 - 1) word >>= λ n. Some (operands.Num n)

unfoldable pub operand_in : ℕ → Word → Option ObjOperand
operand_in locals word = option_or (option_or (option_or (copied_in locals word) (moved_in locals word)) (truth_in word)) (literal_in word)

unfoldable pub op_in : Word → Option Op
op_in word =
    cond (bytes_eq word (codes "add")) (Some Add)
    (cond (bytes_eq word (codes "sub")) (Some Sub)
    (cond (bytes_eq word (codes "mul")) (Some Mul)
    (cond (bytes_eq word (codes "div")) (Some Div)
    (cond (bytes_eq word (codes "rem")) (Some Rem)
    (cond (bytes_eq word (codes "eq")) (Some Eq)
    (cond (bytes_eq word (codes "lt")) (Some Lt) None))))))

unfoldable pub linkage_in : Word → Option Linkage
linkage_in word =
    cond (bytes_eq word (codes "External")) (Some External)
    (cond (bytes_eq word (codes "Internal")) (Some Internal) None)

abbrev pub is_form_of_code : Option SymbolForm → Bool
is_form_of_code None = false
is_form_of_code (Some form) = is_code form.item

unfoldable pub is_code_symbol : Word → Bool
is_code_symbol word = is_form_of_code (symbols.symbol_in 4096 word)

unfoldable pub symbol_in : Word → Option (List ℕ)
symbol_in word = cond (is_code_symbol word) (Some word) None

-- both words, where there are two
abbrev pub both_of : Line → Option (Word × Word)
both_of [] = None
both_of (word ∷ []) = None
both_of (word ∷ next ∷ []) = Some (word, next)
both_of (word ∷ next ∷ third ∷ words) = None

abbrev pub is_empty : Word → Bool
is_empty [] = true
is_empty (b ∷ bs) = false

abbrev pub is_stability : Word → Bool
is_stability word = bytes_eq word (codes "stable") || bytes_eq word (codes "volatile")

-- the parts of a path that was cut at each colon: names, and between each two of them a part without bytes
unfoldable pub is_path_cut : List Word → Bool
is_path_cut [] = false
is_path_cut (name ∷ []) = is_name name
is_path_cut (name ∷ gap ∷ []) = false
is_path_cut (name ∷ gap ∷ next ∷ parts) = is_name name && is_empty gap && is_path_cut (next ∷ parts)

abbrev pub names_module : Option (Word × Word) → Bool
names_module None = false
names_module (Some parts) = is_stability parts.1 && is_path_cut (slice_split (λ b. b == 58) parts.0)

abbrev pub names_unit : Option (Word × Word) → Bool
names_unit None = false
names_unit (Some parts) = is_name parts.0 && names_module (both_of (slice_split (λ b. b == 46) parts.1))

unfoldable pub is_unit_name : Word → Bool
is_unit_name word = names_unit (both_of (slice_split (λ b. b == 47) word))

unfoldable pub unit_name_in : Word → Option (List ℕ)
unit_name_in word = cond (is_unit_name word) (Some word) None

unfoldable pub callee_in : Word → Option ObjCallee
callee_in word = do
  spelled ← behind (codes "fn:") word
  symbol ← symbol_in spelled
  Some (callees.Fn symbol)

-- ---- lists of words

-- the first word and the others
abbrev pub first_of : Line → Option (Word × Line)
first_of [] = None
first_of (word ∷ words) = Some (word, words)

-- the only word
abbrev pub only_of : Line → Option Word
only_of [] = None
only_of (word ∷ []) = Some word
only_of (word ∷ next ∷ words) = None

-- a thing, where there is no word
abbrev pub if_done : {A : Type 0} → A → Line → Option A
if_done a [] = Some a
if_done a (word ∷ words) = None

abbrev pub before : {A B C : Type 0} → A → Option (List A × B × C) → Option (List A × B × C)
before a None = None
before a (Some x) = Some (a ∷ x.0, x.1, x.2)

-- all words but the last two, the last but one, and the last
unfoldable pub last_two : Line → Option (Line × Word × Word)
last_two [] = None
last_two (a ∷ []) = None
last_two (a ∷ b ∷ []) = Some ([], a, b)
last_two (a ∷ b ∷ c ∷ cs) = before a (last_two (b ∷ c ∷ cs))

-- a thing for each word
unfoldable pub all_in : {A : Type 0} → (Word → Option A) → Line → Option (List A)
all_in read [] = Some []
all_in read (word ∷ words) = read word >>= λ a. all_in read words >>= λ others. Some (a ∷ others)

unfoldable pub arm_in : ℕ → Word → Option Arm
arm_in blocks word = do
  parts ← both_of (slice_split (λ b. b == 58) word)
  number ← number_in (2 ^ 64 - 1) parts.0
  label ← below_in blocks parts.1
  Some (record { number = number; label = label })

unfoldable pub one_operand_in : ℕ → Line → Option ObjOperand
one_operand_in locals words = only_of words >>= operand_in locals

unfoldable pub binary_in : ℕ → Op → Line → Option ObjRvalue
binary_in locals op words = do
  parts ← both_of words
  a ← operand_in locals parts.0
  b ← operand_in locals parts.1
  Some (rvalues.Binary op a b)

unfoldable pub rvalue_in : ℕ → Line → Option ObjRvalue
rvalue_in locals words = first_of words >>= λ x.
    cond (bytes_eq x.0 (codes "use")) (one_operand_in locals x.1 >>= λ a. Some (rvalues.Use a))
    (cond (bytes_eq x.0 (codes "not")) (one_operand_in locals x.1 >>= λ a. Some (rvalues.Not a))
    (op_in x.0 >>= λ op. binary_in locals op x.1))

unfoldable pub set_in : ℕ → Line → Option ObjInstr
set_in locals words = do
  x ← first_of words
  place ← place_in locals x.0
  value ← rvalue_in locals x.1
  Some (instrs.Set place value)

unfoldable pub instr_in : ℕ → Line → Option ObjInstr
instr_in locals words = first_of words >>= λ x.
    cond (bytes_eq x.0 (codes "set")) (set_in locals x.1)
    (cond (bytes_eq x.0 (codes "print")) (one_operand_in locals x.1 >>= λ a. Some (instrs.Print a)) None)

unfoldable pub goto_in : ℕ → Line → Option ObjEnd
goto_in blocks words = do
  word ← only_of words
  k ← below_in blocks word
  Some (ends.Goto k)

-- the words between what stands before and the mark, where the mark is the last word but one; and the label behind it
unfoldable pub listed_in : Word → ℕ → Line → Option (Line × ℕ)
listed_in mark blocks words = last_two words >>= λ x.
    cond (bytes_eq x.1 mark) (below_in blocks x.2 >>= λ k. Some (x.0, k)) None

unfoldable pub switch_in : ℕ → ℕ → Line → Option ObjEnd
switch_in locals blocks words = do
  x ← first_of words
  a ← operand_in locals x.0
  list ← listed_in (codes "else") blocks x.1
  arms ← all_in (arm_in blocks) list.0
  Some (ends.Switch a arms list.1)

unfoldable pub call_in : ℕ → ℕ → Line → Option ObjEnd
call_in locals blocks words = do
  x ← first_of words
  place ← place_in locals x.0
  y ← first_of x.1
  callee ← callee_in y.0
  list ← listed_in (codes "->") blocks y.1
  args ← all_in (operand_in locals) list.0
  Some (ends.Call place callee args list.1)

unfoldable pub end_in : ℕ → ℕ → Line → Option ObjEnd
end_in locals blocks words = first_of words >>= λ x.
    cond (bytes_eq x.0 (codes "return")) (if_done ends.Return x.1)
    (cond (bytes_eq x.0 (codes "unreachable")) (if_done ends.Unreachable x.1)
    (cond (bytes_eq x.0 (codes "goto")) (goto_in blocks x.1)
    (cond (bytes_eq x.0 (codes "switch")) (switch_in locals blocks x.1)
    (cond (bytes_eq x.0 (codes "call")) (call_in locals blocks x.1) None))))

-- the numbers of parameters, of locals and of blocks
unfoldable pub counts_in : List ℕ → Linkage → Line → Option Header
counts_in symbol link words = do
  x ← first_of words
  params ← number_in 65535 x.0
  y ← both_of x.1
  locals ← number_in 65536 y.0
  blocks ← number_in (2 ^ 64 - 1) y.1
  cond (ltb params locals && ltb 0 blocks) (Some (record { symbol = symbol; link = link; params = params; locals = locals; blocks = blocks })) None

-- the first line of a function, behind its first word
unfoldable pub header_in : Line → Option Header
header_in words = do
  x ← first_of words
  symbol ← symbol_in x.0
  y ← first_of x.1
  link ← linkage_in y.0
  counts_in symbol link y.1

-- the only word, behind a word that must be there
unfoldable pub named_in : Word → Line → Option Word
named_in key words = do
  both ← both_of words
  cond (bytes_eq both.0 key) (Some both.1) None

-- whether the line labels the block with the number
unfoldable pub label_in : ℕ → Line → Option ℕ
label_in k words = do
  word ← only_of words
  digits ← behind (codes "bb") word
  n ← number_in (2 ^ 64 - 1) digits
  cond (n == k) (Some n) None
