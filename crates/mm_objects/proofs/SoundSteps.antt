-- What is read line by line is written in these lines.
use Rattle.std.proofs.Common.{◌≡◌, ◌≢◌, ℕ, ◌<◌, ◌≤◌, ◌+◌, Bool, true, false, cond, eqb, ◌&&◌, List, [], ◌∷◌, ◌++◌, length, map, codes, All, Option, Some, None, refl, ap, sym, ◌∙◌, subst, arith, append_assoc, append-nil, length-append, inl, inr, flat_map}
use Rattle.std.specs.List.{enumerate_from}
use Rattle.std.specs.Str.{bytes_eq}
use Rattle.std.proofs.lemmas.Bool.{and_parts, eqb-true, eqb-false}
use Rattle.std.proofs.lemmas.Grind.{flat_map-append}
use Rattle.std.proofs.lemmas.List.Elements.{All-nil, All-cons, All-append}
use Rattle.mm_objects.specs.declared.objects.Objects.{Objects}
use Rattle.mm_objects.specs.declared.objects.ObjUnit.{ObjUnit}
use Rattle.mm_objects.specs.declared.objects.ObjDef.{ObjDef}
use Rattle.mm_objects.specs.declared.objects.ObjBlock.{ObjBlock}
use Rattle.mm_objects.specs.declared.objects.ObjInstr.{ObjInstr}
use Rattle.mm_objects.specs.declared.progress.OpenUnit.{OpenUnit}
use Rattle.mm_objects.specs.declared.progress.OpenCode.{OpenCode}
use Rattle.mm_objects.specs.declared.progress.Progress.{Progress}
use Rattle.mm_objects.specs.declared.progress.Progress.TheVariants as at
use Rattle.mm_objects.specs.ObjectNames.{IsCodeSymbol, IsUnitName}
use Rattle.mm_objects.specs.ObjectText.{Word, Line, first_line, main_line, last_line, instr_words, label_line, block_lines, fn_line, def_lines, unit_lines, lines_of}
use Rattle.mm_objects.specs.ObjectForms.{IsInstr, IsBlock, IsDef, IsUnit, AreObjects}
use Rattle.mm_objects.specs.LineReading.{only_of, if_done, named_in, symbol_in, unit_name_in, header_in, label_in, instr_in, end_in}
use Rattle.mm_objects.specs.TextReading.{closed_unit, objects_with, closed_code, with_def, with_block, settled, head_in, main_in, unit_in, behind_main_in, code_in, behind_def_in, block_in, instr_or_end, within_block_in, next_in, run_in}
use Rattle.mm_objects.proofs.ReadTools.{some_same, bind_some, word_is, keyed, keyed_only, chosen}
use Rattle.mm_objects.proofs.NameLaws.{symbol-reads}
use Rattle.mm_objects.proofs.UnitNames.{unit_name-reads}
use Rattle.mm_objects.proofs.LineReads.{only-is, done-is, instr-reads, end-reads}
use Rattle.mm_objects.proofs.HeaderReads.{IsHeader, header_line, header-sound, named-sound, label-sound}

-- without several units there is none before this one
abbrev pub IsFirst : Bool → List ObjUnit → Type 0
IsFirst several units = several ≡ false → units ≡ []

pub record IsOpenUnit (several : Bool) (u : OpenUnit) : Type 0 where
  pub main_is : IsCodeSymbol u.main
  pub units_are : All IsUnit u.units
  pub name_is : IsUnitName u.name
  pub defs_are : All IsDef u.defs
  pub first : IsFirst several u.units

pub record IsOpenCode (several : Bool) (c : OpenCode) : Type 0 where
  pub unit_is : IsOpenUnit several c.unit
  pub header_is : IsHeader c.header
  pub each : All (IsBlock c.header.locals c.header.blocks) c.blocks
  pub few : length c.blocks < c.header.blocks

pub record AreDone (several : Bool) (o : Objects) : Type 0 where
  pub are : AreObjects o
  pub one_unit : several ≡ false → length o.units ≡ 1

-- what was read is well formed so far
abbrev pub IsProgress : Bool → Progress → Type 0
IsProgress several at.Start = Unit {0}
IsProgress several at.Headed = Unit {0}
IsProgress several (at.Main main) = IsCodeSymbol main
IsProgress several (at.«Unit» u) = IsOpenUnit several u
IsProgress several (at.Code c) = IsOpenCode several c
IsProgress several (at.Block c instrs) = IsOpenCode several c × All (IsInstr c.header.locals) instrs
IsProgress several (at.Done o) = AreDone several o

-- the lines of what was read
abbrev pub unit_so_far : OpenUnit → List Line
unit_so_far u = first_line ∷ main_line u.main ∷ (flat_map unit_lines u.units ++ unit_lines (closed_unit u))

abbrev pub code_so_far : OpenCode → List Line
code_so_far c = unit_so_far c.unit ++ header_line c.header ∷ flat_map block_lines (enumerate_from 0 c.blocks)

abbrev pub so_far : Progress → List Line
so_far at.Start = []
so_far at.Headed = first_line ∷ []
so_far (at.Main main) = first_line ∷ main_line main ∷ []
so_far (at.«Unit» u) = unit_so_far u
so_far (at.Code c) = code_so_far c
so_far (at.Block c instrs) = code_so_far c ++ label_line (length c.blocks) ∷ map instr_words instrs
so_far (at.Done o) = lines_of o

-- ---- lists

pub flat_map-more : {X A : Type 0} (f : X → List A) (xs : List X) (x : X) → flat_map f (xs ++ x ∷ []) ≡ flat_map f xs ++ f x
flat_map-more f xs x = flat_map-append f xs (x ∷ []) ∙ ap (λ l. flat_map f xs ++ l) (append-nil (f x))

pub map-more : {X A : Type 0} (f : X → A) (xs : List X) (x : X) → map f (xs ++ x ∷ []) ≡ map f xs ++ f x ∷ []
map-more f [] x = refl
map-more f (y ∷ ys) x = ap (λ l. f y ∷ l) (map-more f ys x)

enumerate-from-more : {X : Type 0} (k : ℕ) (xs : List X) (x : X) → enumerate_from k (xs ++ x ∷ []) ≡ enumerate_from k xs ++ (k + length xs, x) ∷ []
enumerate-from-more k [] x = let e : k ≡ k + 0 = omega arith in ap (λ n. (n, x) ∷ []) e
enumerate-from-more k (y ∷ ys) x =
    let e : k + 1 + length ys ≡ k + length (y ∷ ys) = omega arith in
    ap (λ l. (k, y) ∷ l) (enumerate-from-more (k + 1) ys x ∙ ap (λ n. enumerate_from (k + 1) ys ++ (n, x) ∷ []) e)

pub enumerate-more : {X : Type 0} (xs : List X) (x : X) → enumerate_from 0 (xs ++ x ∷ []) ≡ enumerate_from 0 xs ++ (length xs, x) ∷ []
enumerate-more xs x = let e : 0 + length xs ≡ length xs = omega arith in enumerate-from-more 0 xs x ∙ ap (λ n. enumerate_from 0 xs ++ (n, x) ∷ []) e

all-more : {X : Type 0} (P : X → Type 0) (xs : List X) (x : X) → All P xs → P x → All P (xs ++ x ∷ [])
all-more P xs x all one = All-append P xs (x ∷ []) all (All-cons P x [] one (All-nil P))

-- ---- what is made

pub objects-lines : (u : OpenUnit) → lines_of (objects_with u) ≡ unit_so_far u ++ last_line ∷ []
objects-lines u = ap (λ l. first_line ∷ main_line u.main ∷ (l ++ last_line ∷ [])) (flat_map-more unit_lines u.units (closed_unit u))

pub objects-are : (several : Bool) (u : OpenUnit) → IsOpenUnit several u → AreDone several (objects_with u)
objects-are several u is = record {
  are = record { main_is = is.main_is; each = all-more IsUnit u.units (closed_unit u) is.units_are (record { name_is = is.name_is; each = is.defs_are }) };
  one_unit = λ one. ap (λ l. length (l ++ closed_unit u ∷ [])) (is.first one);
}

pub def-lines : (u : OpenUnit) (d : ObjDef) → unit_so_far (with_def u d) ≡ unit_so_far u ++ def_lines d
def-lines u d =
    ap (λ l. first_line ∷ main_line u.main ∷ l)
    (ap (λ l. flat_map unit_lines u.units ++ (codes "unit" ∷ u.name ∷ []) ∷ l) (flat_map-more def_lines u.defs d)
    ∙ sym (append_assoc (flat_map unit_lines u.units) (unit_lines (closed_unit u)) (def_lines d)))

pub def-is : (several : Bool) (u : OpenUnit) (d : ObjDef) → IsOpenUnit several u → IsDef d → IsOpenUnit several (with_def u d)
def-is several u d is one = record { main_is = is.main_is; units_are = is.units_are; name_is = is.name_is; defs_are = all-more IsDef u.defs d is.defs_are one; first = is.first }

-- the lines of a function up to a further block
pub block-lines : (c : OpenCode) (b : ObjBlock) → code_so_far (with_block c b) ≡ code_so_far c ++ block_lines (length c.blocks, b)
block-lines c b =
    ap (λ l. unit_so_far c.unit ++ header_line c.header ∷ l) (ap (flat_map block_lines) (enumerate-more c.blocks b) ∙ flat_map-more block_lines (enumerate_from 0 c.blocks) (length c.blocks, b))
    ∙ sym (append_assoc (unit_so_far c.unit) (header_line c.header ∷ flat_map block_lines (enumerate_from 0 c.blocks)) (block_lines (length c.blocks, b)))

-- a function that has all its blocks
pub closed-is : (c : OpenCode) → IsHeader c.header → All (IsBlock c.header.locals c.header.blocks) c.blocks → length c.blocks ≡ c.header.blocks → IsDef (closed_code c)
closed-is c header each all = record {
  symbol_is = header.symbol_is;
  above_params = header.above_params;
  few_locals = header.few_locals;
  some_block = omega (arith, all, header.some_block);
  few_blocks = omega (arith, all, header.few_blocks);
  each = subst (λ n. All (IsBlock c.header.locals n) c.blocks) (sym all) each;
}

pub closed-lines : (c : OpenCode) → length c.blocks ≡ c.header.blocks → unit_so_far (with_def c.unit (closed_code c)) ≡ code_so_far c
closed-lines c all =
    def-lines c.unit (closed_code c) ∙ ap (λ n. unit_so_far c.unit ++ fn_line c.header.symbol c.header.link c.header.params c.header.locals n ∷ flat_map block_lines (enumerate_from 0 c.blocks)) all

settled-by : (several : Bool) (c : OpenCode) (whole : Bool) → eqb (length c.blocks) c.header.blocks ≡ whole → IsOpenUnit several c.unit → IsHeader c.header → All (IsBlock c.header.locals c.header.blocks) c.blocks → length c.blocks ≤ c.header.blocks
    → IsProgress several (cond whole (at.«Unit» (with_def c.unit (closed_code c))) (at.Code c)) × (so_far (cond whole (at.«Unit» (with_def c.unit (closed_code c))) (at.Code c)) ≡ code_so_far c)
settled-by several c true test unit header each few =
    let all = eqb-true (length c.blocks) c.header.blocks test in
    (def-is several c.unit (closed_code c) unit (closed-is c header each all), closed-lines c all)
settled-by several c false test unit header each few =
    let apart : length c.blocks ≢ c.header.blocks = eqb-false (length c.blocks) c.header.blocks test in
    let less : length c.blocks < c.header.blocks = omega (arith, few, apart) in
    (record { unit_is = unit; header_is = header; each = each; few = less }, refl)

pub settled-is : (several : Bool) (c : OpenCode) → IsOpenUnit several c.unit → IsHeader c.header → All (IsBlock c.header.locals c.header.blocks) c.blocks → length c.blocks ≤ c.header.blocks
    → IsProgress several (settled c) × (so_far (settled c) ≡ code_so_far c)
unfolding settled
settled-is several c unit header each few = settled-by several c (eqb (length c.blocks) c.header.blocks) refl unit header each few

-- ---- a further line

-- a further line leaves what was read well formed, and is the last line of it
abbrev pub IsNext : Bool → List Line → Line → Progress → Type 0
IsNext several before ws q = IsProgress several q × (so_far q ≡ before ++ ws ∷ [])

head-step : (several : Bool) (ws : Line) (q : Progress) → head_in ws ≡ Some q → IsNext several [] ws q
unfolding head_in
head-step several ws q h =
    let v = bind_some (named_in (codes "objects") ws) _ q h in
    let k = keyed_only v.0 (codes "1") _ q v.2 in
    subst (IsNext several [] ws) (some_same _ _ k.1) (tt, ap (λ l. l ∷ []) (ap (λ w. codes "objects" ∷ w ∷ []) (sym k.0) ∙ named-sound (codes "objects") ws v.0 v.1))

main-step : (several : Bool) (ws : Line) (q : Progress) → main_in ws ≡ Some q → IsNext several (first_line ∷ []) ws q
unfolding main_in
main-step several ws q h =
    let w = bind_some (named_in (codes "main") ws) _ q h in
    let s = bind_some (symbol_in w.0) _ q w.2 in
    let x = symbol-reads.sound w.0 s.0 s.1 in
    subst (IsNext several (first_line ∷ []) ws) (some_same _ _ s.2) (x.0, ap (λ l. first_line ∷ l ∷ []) (ap (λ t. codes "main" ∷ t ∷ []) x.1 ∙ named-sound (codes "main") ws w.0 w.1))

-- the line that begins a unit
unit-step : (several : Bool) (main : List ℕ) (units : List ObjUnit) (ws : Line) (q : Progress) → unit_in main units ws ≡ Some q → IsCodeSymbol main → All IsUnit units → IsFirst several units
    → IsNext several (first_line ∷ main_line main ∷ flat_map unit_lines units) (codes "unit" ∷ ws) q
unfolding unit_in
unit-step several main units ws q h main_is units_are first =
    let w = bind_some (only_of ws) _ q h in
    let n = bind_some (unit_name_in w.0) _ q w.2 in
    let x = unit_name-reads.sound w.0 n.0 n.1 in
    subst (IsNext several (first_line ∷ main_line main ∷ flat_map unit_lines units) (codes "unit" ∷ ws)) (some_same _ _ n.2) (
      record { main_is = main_is; units_are = units_are; name_is = x.0; defs_are = All-nil IsDef; first = first },
      ap (λ l. first_line ∷ main_line main ∷ (flat_map unit_lines units ++ l ∷ [])) (ap (λ t. codes "unit" ∷ t ∷ []) x.1 ∙ ap (λ l. codes "unit" ∷ l) (only-is ws w.0 w.1)),
    )

-- a line that is one word
last-step : (several : Bool) (before : List Line) (o : Objects) (ws : Line) (q : Progress) → if_done (at.Done o) ws ≡ Some q → AreDone several o → lines_of o ≡ before ++ last_line ∷ [] → IsNext several before (codes "end" ∷ ws) q
last-step several before o ws q h are lines =
    let p = done-is (at.Done o) q ws h in
    subst (IsNext several before (codes "end" ∷ ws)) p.0 (are, lines ∙ ap (λ l. before ++ (codes "end" ∷ l) ∷ []) p.1)

-- the test of a word together with another
also : (several : Bool) (w key : Word) (x : Option Progress) (q : Progress) → cond (several && bytes_eq w key) x None ≡ Some q → (several ≡ true) × (w ≡ key) × (x ≡ Some q)
also several w key x q h = elim (chosen (several && bytes_eq w key) x None (Some q) h) [
  | inl p ↦ let t = and_parts several (bytes_eq w key) p.0 in (t.0, word_is w key t.1, p.1)
  | inr n ↦ absurd (cc)
]

no_units : (main : List ℕ) → IsCodeSymbol main → (several : Bool) → several ≡ true → AreDone several (record { main = main; units = [] })
no_units main is several any = record { are = record { main_is = is; each = All-nil IsUnit }; one_unit = λ one. absurd (cc) }

behind_main-step : (several : Bool) (main : List ℕ) (w : Word) (ws : Line) (q : Progress) → IsCodeSymbol main → behind_main_in several main (w ∷ ws) ≡ Some q → IsNext several (first_line ∷ main_line main ∷ []) (w ∷ ws) q
unfolding behind_main_in
behind_main-step several main w ws q is h =
    elim (keyed w (codes "unit") _ _ q h) [
      | inl p ↦ subst (λ v. IsNext several (first_line ∷ main_line main ∷ []) (v ∷ ws) q) (sym p.0) (unit-step several main [] ws q p.1 is (All-nil IsUnit) (λ one. refl))
      | inr h ↦
          let p = also several w (codes "end") _ q h in
          subst (λ v. IsNext several (first_line ∷ main_line main ∷ []) (v ∷ ws) q) (sym p.1) (last-step several (first_line ∷ main_line main ∷ []) _ ws q p.2 (no_units main is several p.0) refl)
    ]

code-step : (several : Bool) (u : OpenUnit) (ws : Line) (q : Progress) → IsOpenUnit several u → code_in u ws ≡ Some q → IsNext several (unit_so_far u) (codes "fn" ∷ ws) q
unfolding code_in
code-step several u ws q is h =
    let x = bind_some (header_in ws) _ q h in
    let p = header-sound ws x.0 x.1 in
    subst (IsNext several (unit_so_far u) (codes "fn" ∷ ws)) (some_same _ _ x.2)
    (record { unit_is = is; header_is = p.0; each = All-nil (IsBlock x.0.locals x.0.blocks); few = p.0.some_block }, ap (λ l. unit_so_far u ++ l ∷ []) p.1)

behind_def-step : (several : Bool) (u : OpenUnit) (w : Word) (ws : Line) (q : Progress) → IsOpenUnit several u → behind_def_in several u (w ∷ ws) ≡ Some q → IsNext several (unit_so_far u) (w ∷ ws) q
unfolding behind_def_in
behind_def-step several u w ws q is h =
    elim (keyed w (codes "fn") _ _ q h) [
      | inl p ↦ subst (λ v. IsNext several (unit_so_far u) (v ∷ ws) q) (sym p.0) (code-step several u ws q is p.1)
      | inr h ↦ elim (keyed w (codes "end") _ _ q h) [
        | inl p ↦ subst (λ v. IsNext several (unit_so_far u) (v ∷ ws) q) (sym p.0) (last-step several (unit_so_far u) (objects_with u) ws q p.1 (objects-are several u is) (objects-lines u))
        | inr h ↦
            let p = also several w (codes "unit") _ q h in
            let done = objects-are several u is in
            let next = unit-step several u.main (objects_with u).units ws q p.2 is.main_is done.are.each (λ one. absurd (cc)) in
            subst (λ v. IsNext several (unit_so_far u) (v ∷ ws) q) (sym p.1) (next.0, next.1 ∙ ap (λ l. first_line ∷ main_line u.main ∷ (l ++ (codes "unit" ∷ ws) ∷ [])) (flat_map-more unit_lines u.units (closed_unit u)))
      ]
    ]

block-step : (several : Bool) (c : OpenCode) (ws : Line) (q : Progress) → IsOpenCode several c → block_in c ws ≡ Some q → IsNext several (code_so_far c) ws q
unfolding block_in
block-step several c ws q is h =
    let k = bind_some (label_in (length c.blocks) ws) _ q h in
    subst (IsNext several (code_so_far c) ws) (some_same _ _ k.2) ((is, All-nil (IsInstr c.header.locals)), ap (λ l. code_so_far c ++ l ∷ []) (label-sound (length c.blocks) ws k.0 k.1))

instr-step : (several : Bool) (c : OpenCode) (instrs : List ObjInstr) (ws : Line) (q : Progress) → IsOpenCode several c → All (IsInstr c.header.locals) instrs → (found : Option ObjInstr) → instr_in c.header.locals ws ≡ found
    → instr_or_end c instrs found ws ≡ Some q → IsNext several (so_far (at.Block c instrs)) ws q
instr-step several c instrs ws q is all (Some instr) reads h =
    let x = (instr-reads c.header.locals).sound ws instr reads in
    let prefix = code_so_far c ++ label_line (length c.blocks) ∷ [] in
    subst (IsNext several (so_far (at.Block c instrs)) ws) (some_same _ _ h) (
      (is, all-more (IsInstr c.header.locals) instrs instr all x.0),
      ap (λ l. code_so_far c ++ label_line (length c.blocks) ∷ l) (map-more instr_words instrs instr ∙ ap (λ l. map instr_words instrs ++ l ∷ []) x.1)
          ∙ sym (append_assoc (code_so_far c) (label_line (length c.blocks) ∷ map instr_words instrs) (ws ∷ [])),
    )
instr-step several c instrs ws q is all None reads h =
    let e = bind_some (end_in c.header.locals c.header.blocks ws) _ q h in
    let x = (end-reads c.header.locals c.header.blocks).sound ws e.0 e.1 in
    let b : ObjBlock = record { instrs = instrs; end = e.0 } in
    let grown : length (with_block c b).blocks ≤ c.header.blocks = omega (arith, length-append c.blocks (b ∷ []), is.few) in
    let s = settled-is several (with_block c b) is.unit_is is.header_is (all-more (IsBlock c.header.locals c.header.blocks) c.blocks b is.each (record { instrs = all; end = x.0 })) grown in
    subst (IsNext several (so_far (at.Block c instrs)) ws) (some_same _ _ e.2) (
      s.0,
      s.1 ∙ block-lines c b ∙ ap (λ l. code_so_far c ++ label_line (length c.blocks) ∷ (map instr_words instrs ++ l ∷ [])) x.1
          ∙ sym (append_assoc (code_so_far c) (label_line (length c.blocks) ∷ map instr_words instrs) (ws ∷ [])),
    )

pub step-sound : (several : Bool) (p : Progress) (ws : Line) (q : Progress) → IsProgress several p → next_in several p ws ≡ Some q → IsNext several (so_far p) ws q
unfolding next_in behind_main_in behind_def_in within_block_in
step-sound several at.Start ws q is h = head-step several ws q h
step-sound several at.Headed ws q is h = main-step several ws q h
step-sound several (at.Main main) [] q is h = cc
step-sound several (at.Main main) (w ∷ ws) q is h = behind_main-step several main w ws q is h
step-sound several (at.«Unit» u) [] q is h = cc
step-sound several (at.«Unit» u) (w ∷ ws) q is h = behind_def-step several u w ws q is h
step-sound several (at.Code c) ws q is h = block-step several c ws q is h
step-sound several (at.Block c instrs) ws q is h = instr-step several c instrs ws q is.0 is.1 (instr_in c.header.locals ws) refl h
step-sound several (at.Done o) ws q is h = cc

pub run-sound : (several : Bool) (p : Progress) (ls : List Line) (q : Progress) → IsProgress several p → run_in several p ls ≡ Some q → IsProgress several q × (so_far q ≡ so_far p ++ ls)
unfolding run_in
run-sound several p [] q is h = subst (λ r. IsProgress several r × (so_far r ≡ so_far p ++ [])) (some_same p q h) (is, sym (append-nil (so_far p)))
run-sound several p (l ∷ ls) q is h =
    let n = bind_some (next_in several p l) _ q h in
    let s = step-sound several p l n.0 is n.1 in
    let r = run-sound several n.0 ls q s.0 n.2 in
    (r.0, r.1 ∙ ap (λ prefix. prefix ++ ls) s.1 ∙ append_assoc (so_far p) (l ∷ []) ls)
