-- The lines of objects are read, and each prefix of lines that is read can be gone on with.
use Rattle.std.proofs.Common.{◌≡◌, ℕ, ◌<◌, ◌^◌, ◌+◌, Bool, true, false, eqb, List, [], ◌∷◌, ◌++◌, length, map, codes, All, Option, Some, None, refl, ap, sym, ◌∙◌, arith, append_assoc, append-nil, length-append, flat_map}
use Rattle.std.specs.List.{enumerate_from}
use Rattle.std.proofs.lemmas.Bool.{eqb-true, false_from_ne_true}
use Rattle.std.proofs.lemmas.List.Elements.{All-head, All-tail}
use Rattle.mm_objects.specs.declared.objects.Objects.{Objects}
use Rattle.mm_objects.specs.declared.objects.ObjUnit.{ObjUnit}
use Rattle.mm_objects.specs.declared.objects.ObjDef.{ObjDef}
use Rattle.mm_objects.specs.declared.objects.ObjDef.TheVariants.{Code}
use Rattle.mm_objects.specs.declared.objects.ObjBlock.{ObjBlock}
use Rattle.mm_objects.specs.declared.objects.ObjInstr.{ObjInstr}
use Rattle.mm_objects.specs.declared.objects.ObjEnd.{ObjEnd}
use Rattle.mm_objects.specs.declared.progress.Header.{Header}
use Rattle.mm_objects.specs.declared.progress.OpenUnit.{OpenUnit}
use Rattle.mm_objects.specs.declared.progress.OpenCode.{OpenCode}
use Rattle.mm_objects.specs.declared.progress.Progress.{Progress}
use Rattle.mm_objects.specs.declared.progress.Progress.TheVariants as at
use Rattle.mm_objects.specs.ObjectNames.{IsCodeSymbol, IsUnitName}
use Rattle.mm_objects.specs.ObjectText.{Line, first_line, main_line, last_line, instr_words, end_words, label_line, block_lines, def_lines, unit_lines, lines_of}
use Rattle.mm_objects.specs.ObjectForms.{IsInstr, IsEnd, IsBlock, IsDef, IsUnit}
use Rattle.mm_objects.specs.LineReading.{◌>>=◌, named_in}
use Rattle.mm_objects.specs.TextReading.{closed_unit, objects_with, closed_code, with_def, with_block, settled, head_in, main_in, unit_in, behind_main_in, code_in, behind_def_in, block_in, within_block_in, next_in, run_in}
use Rattle.mm_objects.proofs.ReadTools.{eqb-self}
use Rattle.mm_objects.proofs.NameLaws.{symbol-reads}
use Rattle.mm_objects.proofs.UnitNames.{unit_name-reads}
use Rattle.mm_objects.proofs.LineReads.{instr-reads, end-reads, end-no_instr}
use Rattle.mm_objects.proofs.HeaderReads.{IsHeader, header_line, header-again, named-again, label-again}
use Rattle.mm_objects.proofs.SoundSteps.{AreDone}

bind-assoc : {A B C : Type 0} (o : Option A) (f : A → Option B) (g : B → Option C) (both : A → Option C) → ((a : A) → both a ≡ (f a >>= g)) → (o >>= both) ≡ ((o >>= f) >>= g)
bind-assoc None f g both same = refl
bind-assoc (Some a) f g both same = same a

pub run-append : (several : Bool) (p : Progress) (xs ys : List Line) → run_in several p (xs ++ ys) ≡ (run_in several p xs >>= λ q. run_in several q ys)
unfolding run_in
run-append several p [] ys = refl
run-append several p (x ∷ xs) ys = bind-assoc (next_in several p x) (λ q. run_in several q xs) (λ q. run_in several q ys) (λ q. run_in several q (xs ++ ys)) (λ q. run-append several q xs ys)

-- one line, and then the others
pub run-next : (several : Bool) (p q : Progress) (l : Line) (ls : List Line) → next_in several p l ≡ Some q → run_in several p (l ∷ ls) ≡ run_in several q ls
unfolding run_in
run-next several p q l ls h = ap (λ o. o >>= λ q. run_in several q ls) h

-- ---- the lines of each part

instr-step : (several : Bool) (c : OpenCode) (done : List ObjInstr) (instr : ObjInstr) → IsInstr c.header.locals instr → next_in several (at.Block c done) (instr_words instr) ≡ Some (at.Block c (done ++ instr ∷ []))
unfolding next_in within_block_in
instr-step several c done instr is = rw ((instr-reads c.header.locals).again instr is) refl

run-instrs : (several : Bool) (c : OpenCode) (done instrs : List ObjInstr) (rest : List Line) → All (IsInstr c.header.locals) instrs
    → run_in several (at.Block c done) (map instr_words instrs ++ rest) ≡ run_in several (at.Block c (done ++ instrs)) rest
run-instrs several c done [] rest all = ap (λ l. run_in several (at.Block c l) rest) (sym (append-nil done))
run-instrs several c done (instr ∷ instrs) rest all =
    run-next several (at.Block c done) (at.Block c (done ++ instr ∷ [])) (instr_words instr) (map instr_words instrs ++ rest) (instr-step several c done instr (All-head (IsInstr c.header.locals) instr instrs all))
    ∙ run-instrs several c (done ++ instr ∷ []) instrs rest (All-tail (IsInstr c.header.locals) instr instrs all)
    ∙ ap (λ l. run_in several (at.Block c l) rest) (append_assoc done (instr ∷ []) instrs)

pub end-step : (several : Bool) (c : OpenCode) (done : List ObjInstr) (e : ObjEnd) → IsEnd c.header.locals c.header.blocks e
    → next_in several (at.Block c done) (end_words e) ≡ Some (settled (with_block c (record { instrs = done; end = e })))
unfolding next_in within_block_in
end-step several c done e is = rw (end-no_instr c.header.locals e, (end-reads c.header.locals c.header.blocks).again e is) refl

label-step : (several : Bool) (c : OpenCode) → length c.blocks < 2 ^ 64 → next_in several (at.Code c) (label_line (length c.blocks)) ≡ Some (at.Block c [])
unfolding next_in block_in
label-step several c fits = rw (label-again (length c.blocks) fits) refl

run-block : (several : Bool) (c : OpenCode) (b : ObjBlock) (rest : List Line) → length c.blocks < 2 ^ 64 → IsBlock c.header.locals c.header.blocks b
    → run_in several (at.Code c) (block_lines (length c.blocks, b) ++ rest) ≡ run_in several (settled (with_block c b)) rest
run-block several c b rest fits is =
    let lines = append_assoc (map instr_words b.instrs) (end_words b.end ∷ []) rest in
    run-next several (at.Code c) (at.Block c []) (label_line (length c.blocks)) ((map instr_words b.instrs ++ end_words b.end ∷ []) ++ rest) (label-step several c fits)
    ∙ ap (run_in several (at.Block c [])) lines
    ∙ run-instrs several c [] b.instrs (end_words b.end ∷ rest) is.instrs
    ∙ run-next several (at.Block c b.instrs) (settled (with_block c b)) (end_words b.end) rest (end-step several c b.instrs b.end is.end)

abbrev pub with_blocks : OpenCode → List ObjBlock → OpenCode
with_blocks c blocks = record { unit = c.unit; header = c.header; blocks = c.blocks ++ blocks }

settled-whole : (c : OpenCode) → length c.blocks ≡ c.header.blocks → settled c ≡ at.«Unit» (with_def c.unit (closed_code c))
unfolding settled
settled-whole c all = rw (all, eqb-self c.header.blocks) refl

settled-open : (c : OpenCode) → length c.blocks < c.header.blocks → settled c ≡ at.Code c
unfolding settled
settled-open c few =
    let apart : eqb (length c.blocks) c.header.blocks ≡ false = false_from_ne_true (eqb (length c.blocks) c.header.blocks) (λ e. absurd (omega (arith, few, eqb-true (length c.blocks) c.header.blocks e))) in
    rw apart refl

-- the blocks that are missing
pub run-blocks : (several : Bool) (c : OpenCode) (blocks : List ObjBlock) (rest : List Line) → c.header.blocks < 2 ^ 64 → length c.blocks < c.header.blocks → length c.blocks + length blocks ≡ c.header.blocks
    → All (IsBlock c.header.locals c.header.blocks) blocks
    → run_in several (at.Code c) (flat_map block_lines (enumerate_from (length c.blocks) blocks) ++ rest) ≡ run_in several (at.«Unit» (with_def c.unit (closed_code (with_blocks c blocks)))) rest
run-blocks several c [] rest fits few all each = absurd (omega (arith, few, all))
run-blocks several c (b ∷ []) rest fits few all each =
    let is = All-head (IsBlock c.header.locals c.header.blocks) b [] each in
    let whole : length (c.blocks ++ b ∷ []) ≡ c.header.blocks = length-append c.blocks (b ∷ []) ∙ all in
    ap (λ l. run_in several (at.Code c) (l ++ rest)) (append-nil (block_lines (length c.blocks, b)))
    ∙ run-block several c b rest (omega (arith, few, fits)) is
    ∙ ap (λ p. run_in several p rest) (settled-whole (with_block c b) whole)
run-blocks several c (b ∷ d ∷ ds) rest fits few all each =
    let is = All-head (IsBlock c.header.locals c.header.blocks) b (d ∷ ds) each in
    let grown : length (c.blocks ++ b ∷ []) ≡ length c.blocks + 1 = length-append c.blocks (b ∷ []) in
    let less : length (with_block c b).blocks < c.header.blocks = omega (arith, grown, all) in
    let sum : length (with_block c b).blocks + length (d ∷ ds) ≡ c.header.blocks = omega (arith, grown, all) in
    ap (run_in several (at.Code c)) (append_assoc (block_lines (length c.blocks, b)) (flat_map block_lines (enumerate_from (length c.blocks + 1) (d ∷ ds))) rest)
    ∙ run-block several c b (flat_map block_lines (enumerate_from (length c.blocks + 1) (d ∷ ds)) ++ rest) (omega (arith, few, fits)) is
    ∙ ap (λ p. run_in several p (flat_map block_lines (enumerate_from (length c.blocks + 1) (d ∷ ds)) ++ rest)) (settled-open (with_block c b) less)
    ∙ ap (λ n. run_in several (at.Code (with_block c b)) (flat_map block_lines (enumerate_from n (d ∷ ds)) ++ rest)) (sym grown)
    ∙ run-blocks several (with_block c b) (d ∷ ds) rest fits less sum (All-tail (IsBlock c.header.locals c.header.blocks) b (d ∷ ds) each)
    ∙ ap (λ l. run_in several (at.«Unit» (with_def c.unit (closed_code (record { unit = c.unit; header = c.header; blocks = l })))) rest) (append_assoc c.blocks (b ∷ []) (d ∷ ds))

code-step : (several : Bool) (u : OpenUnit) (h : Header) → IsHeader h → next_in several (at.«Unit» u) (header_line h) ≡ Some (at.Code (record { unit = u; header = h; blocks = [] }))
unfolding next_in behind_def_in code_in
code-step several u h is = rw (header-again h is) refl

run-def : (several : Bool) (u : OpenUnit) (d : ObjDef) (rest : List Line) → IsDef d → run_in several (at.«Unit» u) (def_lines d ++ rest) ≡ run_in several (at.«Unit» (with_def u d)) rest
run-def several u (Code symbol link params locals blocks) rest is =
    let h : Header = record { symbol = symbol; link = link; params = params; locals = locals; blocks = length blocks } in
    let c : OpenCode = record { unit = u; header = h; blocks = [] } in
    run-next several (at.«Unit» u) (at.Code c) (header_line h) (flat_map block_lines (enumerate_from 0 blocks) ++ rest)
    (code-step several u h (record { symbol_is = is.symbol_is; above_params = is.above_params; few_locals = is.few_locals; some_block = is.some_block; few_blocks = is.few_blocks }))
    ∙ run-blocks several c blocks rest is.few_blocks is.some_block (omega arith) is.each

abbrev with_defs : OpenUnit → List ObjDef → OpenUnit
with_defs u defs = record { main = u.main; units = u.units; name = u.name; defs = u.defs ++ defs }

run-defs : (several : Bool) (u : OpenUnit) (defs : List ObjDef) (rest : List Line) → All IsDef defs → run_in several (at.«Unit» u) (flat_map def_lines defs ++ rest) ≡ run_in several (at.«Unit» (with_defs u defs)) rest
run-defs several u [] rest all = ap (λ l. run_in several (at.«Unit» (record { main = u.main; units = u.units; name = u.name; defs = l })) rest) (sym (append-nil u.defs))
run-defs several u (d ∷ ds) rest all =
    ap (run_in several (at.«Unit» u)) (append_assoc (def_lines d) (flat_map def_lines ds) rest)
    ∙ run-def several u d (flat_map def_lines ds ++ rest) (All-head IsDef d ds all)
    ∙ run-defs several (with_def u d) ds rest (All-tail IsDef d ds all)
    ∙ ap (λ l. run_in several (at.«Unit» (record { main = u.main; units = u.units; name = u.name; defs = l })) rest) (append_assoc u.defs (d ∷ []) ds)

abbrev begun : List ℕ → List ObjUnit → ObjUnit → OpenUnit
begun main units unit = record { main = main; units = units; name = unit.name; defs = unit.defs }

-- the objects with further units
abbrev done_with : OpenUnit → List ObjUnit → Objects
done_with u units = record { main = u.main; units = u.units ++ closed_unit u ∷ units }

unit-step : (u : OpenUnit) (unit : ObjUnit) → IsUnitName unit.name → next_in true (at.«Unit» u) (codes "unit" ∷ unit.name ∷ []) ≡ Some (at.«Unit» (record { main = u.main; units = (objects_with u).units; name = unit.name; defs = [] }))
unfolding next_in behind_def_in unit_in
unit-step u unit is = rw (unit_name-reads.again unit.name is) refl

last-step : (several : Bool) (u : OpenUnit) → next_in several (at.«Unit» u) last_line ≡ Some (at.Done (objects_with u))
unfolding next_in behind_def_in
last-step several u = refl

pub run-last : (several : Bool) (u : OpenUnit) → run_in several (at.«Unit» u) (last_line ∷ []) ≡ Some (at.Done (objects_with u))
unfolding run_in
run-last several u = run-next several (at.«Unit» u) (at.Done (objects_with u)) last_line [] (last-step several u)

run-units : (u : OpenUnit) (units : List ObjUnit) → All IsUnit units → run_in true (at.«Unit» u) (flat_map unit_lines units ++ last_line ∷ []) ≡ Some (at.Done (done_with u units))
run-units u [] all = run-last true u
run-units u (unit ∷ units) all =
    let is = All-head IsUnit unit units all in
    let next = begun u.main (objects_with u).units unit in
    ap (run_in true (at.«Unit» u)) (append_assoc (unit_lines unit) (flat_map unit_lines units) (last_line ∷ []))
    ∙ run-next true (at.«Unit» u) (at.«Unit» (record { main = u.main; units = (objects_with u).units; name = unit.name; defs = [] })) (codes "unit" ∷ unit.name ∷ []) (flat_map def_lines unit.defs ++ (flat_map unit_lines units ++ last_line ∷ [])) (unit-step u unit is.name_is)
    ∙ run-defs true (record { main = u.main; units = (objects_with u).units; name = unit.name; defs = [] }) unit.defs (flat_map unit_lines units ++ last_line ∷ []) is.each
    ∙ run-units next units (All-tail IsUnit unit units all)
    ∙ ap (λ l. Some (at.Done (record { main = u.main; units = l }))) (append_assoc u.units (closed_unit u ∷ []) (unit ∷ units))

-- ---- all lines

first-step : (several : Bool) (main : List ℕ) (unit : ObjUnit) → IsUnitName unit.name → next_in several (at.Main main) (codes "unit" ∷ unit.name ∷ []) ≡ Some (at.«Unit» (record { main = main; units = []; name = unit.name; defs = [] }))
unfolding next_in behind_main_in unit_in
first-step several main unit is = rw (unit_name-reads.again unit.name is) refl

run-first : (several : Bool) (main : List ℕ) (unit : ObjUnit) (rest : List Line) → IsUnit unit → run_in several (at.Main main) (unit_lines unit ++ rest) ≡ run_in several (at.«Unit» (begun main [] unit)) rest
run-first several main unit rest is =
    run-next several (at.Main main) (at.«Unit» (record { main = main; units = []; name = unit.name; defs = [] })) (codes "unit" ∷ unit.name ∷ []) (flat_map def_lines unit.defs ++ rest) (first-step several main unit is.name_is)
    ∙ run-defs several (record { main = main; units = []; name = unit.name; defs = [] }) unit.defs rest is.each

none-step : (main : List ℕ) → next_in true (at.Main main) last_line ≡ Some (at.Done (record { main = main; units = [] }))
unfolding next_in behind_main_in
none-step main = refl

pub run-main : (several : Bool) (main : List ℕ) (units : List ObjUnit) → All IsUnit units → (several ≡ false → length units ≡ 1) → run_in several (at.Main main) (flat_map unit_lines units ++ last_line ∷ []) ≡ Some (at.Done (record { main = main; units = units }))
unfolding run_in
run-main true main [] all one = run-next true (at.Main main) (at.Done (record { main = main; units = [] })) last_line [] (none-step main)
run-main false main [] all one = absurd (omega (arith, one refl))
run-main true main (unit ∷ units) all one =
    ap (run_in true (at.Main main)) (append_assoc (unit_lines unit) (flat_map unit_lines units) (last_line ∷ []))
    ∙ run-first true main unit (flat_map unit_lines units ++ last_line ∷ []) (All-head IsUnit unit units all)
    ∙ run-units (begun main [] unit) units (All-tail IsUnit unit units all)
run-main false main (unit ∷ []) all one =
    ap (run_in false (at.Main main)) (append_assoc (unit_lines unit) [] (last_line ∷ []))
    ∙ run-first false main unit (last_line ∷ []) (All-head IsUnit unit [] all)
    ∙ run-last false (begun main [] unit)
run-main false main (unit ∷ next ∷ units) all one = absurd (omega (arith, one refl))

pub head-step : (several : Bool) → next_in several at.Start first_line ≡ Some at.Headed
unfolding next_in head_in named_in
head-step several = refl

pub main-step : (several : Bool) (main : List ℕ) → IsCodeSymbol main → next_in several at.Headed (main_line main) ≡ Some (at.Main main)
unfolding next_in main_in
main-step several main is = rw (named-again (codes "main") main, symbol-reads.again main is) refl

pub run-again : (several : Bool) (o : Objects) → AreDone several o → run_in several at.Start (lines_of o) ≡ Some (at.Done o)
run-again several o is =
    run-next several at.Start at.Headed first_line (main_line o.main ∷ (flat_map unit_lines o.units ++ last_line ∷ [])) (head-step several)
    ∙ run-next several at.Headed (at.Main o.main) (main_line o.main) (flat_map unit_lines o.units ++ last_line ∷ []) (main-step several o.main is.are.main_is)
    ∙ run-main several o.main o.units is.are.each is.one_unit
