-- Each prefix of lines that is read can be gone on with, so that the lines are those of objects.
use Rattle.std.proofs.Common.{◌≡◌, ℕ, zero, suc, ◌-◌, ◌+◌, Bool, true, false, cond, eqb, List, [], ◌∷◌, ◌++◌, length, All, Some, refl, ap, sym, ◌∙◌, arith, flat_map}
use Rattle.std.specs.List.{enumerate_from}
use Rattle.std.proofs.lemmas.List.Elements.{All-nil, All-cons}
use Rattle.mm_objects.specs.declared.objects.Objects.{Objects}
use Rattle.mm_objects.specs.declared.objects.ObjUnit.{ObjUnit}
use Rattle.mm_objects.specs.declared.objects.ObjBlock.{ObjBlock}
use Rattle.mm_objects.specs.declared.objects.ObjInstr.{ObjInstr}
use Rattle.mm_objects.specs.declared.objects.ObjEnd.TheVariants as ends
use Rattle.mm_objects.specs.declared.progress.OpenUnit.{OpenUnit}
use Rattle.mm_objects.specs.declared.progress.OpenCode.{OpenCode}
use Rattle.mm_objects.specs.declared.progress.Progress.{Progress}
use Rattle.mm_objects.specs.declared.progress.Progress.TheVariants as at
use Rattle.mm_objects.specs.ObjectText.{Line, first_line, main_line, last_line, end_words, block_lines, unit_lines, lines_of}
use Rattle.mm_objects.specs.ObjectForms.{IsBlock, IsDef, IsUnit}
use Rattle.mm_objects.specs.TextReading.{closed_code, with_def, with_block, settled, run_in}
use Rattle.mm_objects.specs.LineReading.{◌>>=◌}
use Rattle.mm_objects.proofs.ReadTools.{bind_some}
use Rattle.mm_objects.proofs.NameLaws.{example_symbol, example_symbol-is}
use Rattle.mm_objects.proofs.UnitNames.{example_unit, example_unit-is}
use Rattle.mm_objects.proofs.SoundSteps.{IsOpenCode, AreDone, IsProgress, step-sound, run-sound}
use Rattle.mm_objects.proofs.AgainSteps.{run-append, run-next, run-blocks, run-last, head-step, main-step, run-main, run-again, end-step}

-- lines with which all of the objects is read
pub record GoesOn (several : Bool) (p : Progress) : Type 0 where
  pub rest : List Line
  pub objects : Objects
  pub ends : run_in several p rest ≡ Some (at.Done objects)

-- a unit without definitions
abbrev bare_unit : ObjUnit
bare_unit = record { name = example_unit; defs = [] }

bare_units-are : All IsUnit (bare_unit ∷ [])
bare_units-are = All-cons IsUnit bare_unit [] (record { name_is = example_unit-is; each = All-nil IsDef }) (All-nil IsUnit)

abbrev unit_rest : List Line
unit_rest = flat_map unit_lines (bare_unit ∷ []) ++ last_line ∷ []

main-on : (several : Bool) (main : List ℕ) → GoesOn several (at.Main main)
main-on several main = record { rest = unit_rest; objects = record { main = main; units = bare_unit ∷ [] }; ends = run-main several main (bare_unit ∷ []) bare_units-are (λ one. refl) }

headed-on : (several : Bool) → GoesOn several at.Headed
headed-on several =
    let m = main-on several example_symbol in
    record { rest = main_line example_symbol ∷ m.rest; objects = m.objects; ends = run-next several at.Headed (at.Main example_symbol) (main_line example_symbol) m.rest (main-step several example_symbol example_symbol-is) ∙ m.ends }

start-on : (several : Bool) → GoesOn several at.Start
start-on several =
    let h = headed-on several in
    record { rest = first_line ∷ h.rest; objects = h.objects; ends = run-next several at.Start at.Headed first_line h.rest (head-step several) ∙ h.ends }

unit-on : (several : Bool) (u : OpenUnit) → GoesOn several (at.«Unit» u)
unit-on several u = record { rest = last_line ∷ []; objects = _; ends = run-last several u }

-- blocks that no run comes to
abbrev bare_block : ObjBlock
bare_block = record { instrs = []; end = ends.Unreachable }

bare_blocks : ℕ → List ObjBlock
bare_blocks zero = []
bare_blocks (suc n) = bare_block ∷ bare_blocks n

bare-length : (n : ℕ) → length (bare_blocks n) ≡ n
unfolding bare_blocks
bare-length zero = refl
bare-length (suc n) = ap suc (bare-length n)

bare-are : (locals blocks n : ℕ) → All (IsBlock locals blocks) (bare_blocks n)
unfolding bare_blocks
bare-are locals blocks zero = All-nil (IsBlock locals blocks)
bare-are locals blocks (suc n) = All-cons (IsBlock locals blocks) bare_block (bare_blocks n) (record { instrs = All-nil _; end = tt }) (bare-are locals blocks n)

code-on : (several : Bool) (c : OpenCode) → IsOpenCode several c → GoesOn several (at.Code c)
code-on several c is =
    let missing = c.header.blocks - length c.blocks in
    let blocks = bare_blocks missing in
    let sum : length c.blocks + length blocks ≡ c.header.blocks = omega (arith, bare-length missing, is.few) in
    record {
      rest = flat_map block_lines (enumerate_from (length c.blocks) blocks) ++ last_line ∷ [];
      objects = _;
      ends = run-blocks several c blocks (last_line ∷ []) is.header_is.few_blocks is.few sum (bare-are c.header.locals c.header.blocks missing) ∙ run-last several _;
    }

settled-on : (several : Bool) (c : OpenCode) (whole : Bool) → IsProgress several (cond whole (at.«Unit» (with_def c.unit (closed_code c))) (at.Code c)) → GoesOn several (cond whole (at.«Unit» (with_def c.unit (closed_code c))) (at.Code c))
settled-on several c true is = unit-on several (with_def c.unit (closed_code c))
settled-on several c false is = code-on several c is

-- a block is ended
closed-on : (several : Bool) (c : OpenCode) → IsProgress several (settled c) → GoesOn several (settled c)
unfolding settled
closed-on several c is = settled-on several c (eqb (length c.blocks) c.header.blocks) is

block-on : (several : Bool) (c : OpenCode) (instrs : List ObjInstr) → IsProgress several (at.Block c instrs) → GoesOn several (at.Block c instrs)
block-on several c instrs is =
    let b : ObjBlock = record { instrs = instrs; end = ends.Unreachable } in
    let next = end-step several c instrs ends.Unreachable tt in
    let s = step-sound several (at.Block c instrs) (end_words ends.Unreachable) (settled (with_block c b)) is next in
    let g = closed-on several (with_block c b) s.0 in
    record { rest = end_words ends.Unreachable ∷ g.rest; objects = g.objects; ends = run-next several (at.Block c instrs) (settled (with_block c b)) (end_words ends.Unreachable) g.rest next ∙ g.ends }

goes-on : (several : Bool) (p : Progress) → IsProgress several p → GoesOn several p
unfolding run_in
goes-on several at.Start is = start-on several
goes-on several at.Headed is = headed-on several
goes-on several (at.Main main) is = main-on several main
goes-on several (at.«Unit» u) is = unit-on several u
goes-on several (at.Code c) is = code-on several c is
goes-on several (at.Block c instrs) is = block-on several c instrs is
goes-on several (at.Done o) is = record { rest = []; objects = o; ends = refl }

-- lines that are read are the first of the lines of some objects
pub record AreFirstOf (several : Bool) (ls : List Line) : Type 0 where
  pub rest : List Line
  pub objects : Objects
  pub are : AreDone several objects
  pub is : lines_of objects ≡ ls ++ rest

pub run-first_of : (several : Bool) (ls : List Line) (p : Progress) → run_in several at.Start ls ≡ Some p → AreFirstOf several ls
run-first_of several ls p h =
    let s = run-sound several at.Start ls p tt h in
    let g = goes-on several p s.0 in
    let whole : run_in several at.Start (ls ++ g.rest) ≡ Some (at.Done g.objects) = run-append several at.Start ls g.rest ∙ ap (λ o. o >>= λ q. run_in several q g.rest) h ∙ g.ends in
    let r = run-sound several at.Start (ls ++ g.rest) (at.Done g.objects) tt whole in
    record { rest = g.rest; objects = g.objects; are = r.0; is = r.1 }

-- lines of which some are not read are no first lines
pub run-not_first : (several : Bool) (ls rest : List Line) (o : Objects) → AreDone several o → lines_of o ≡ ls ++ rest → (p : Progress) × (run_in several at.Start ls ≡ Some p)
run-not_first several ls rest o are is =
    let whole = sym (run-append several at.Start ls rest) ∙ ap (run_in several at.Start) (sym is) ∙ run-again several o are in
    let b = bind_some (run_in several at.Start ls) _ (at.Done o) whole in
    (b.0, b.1)
