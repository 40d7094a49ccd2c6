use Rattle.std.proofs.Common.{◌≡◌, ℕ, ◌+◌, List, ◌<◌, length, map, get_or, sym, ◌∙◌, ap, subst, arith}
use Rattle.std.proofs.lemmas.List.{get_or-map, length-map}
use denote.Ref.{Bor}
use Rattle.mm_lower.specs.Params.{look_up}
use Rattle.mm_lower.proofs.ParamLemmas.{table_more, table_all}
use Rattle.mm_lower.proofs.params.param_table.Goals as goal

abbrev text : Bor (List ℕ) → List ℕ
text n = n.now

pub loop-name-preserved : goal.loop-name-preserved
loop-name-preserved c =
    let names = c.args.names.now in
    let i = c.loop-name.name-index in
    let within : i < length names = c.loop-name-test.true in (
      ap (λ k. k + 1) c.loop-name.invariant.0,
      table_more (map text names) i (look_up c.loop-name.table) (look_up c.note.new.table) _ c.loop-name.place c.loop-name.invariant.0 c.loop-name.invariant.1
          (omega (arith, within, length-map names text)) (sym (get_or-map text names i _ _ within)) c.in_ok-note.ensures,
    )

pub returns : goal.returns
returns c =
    let names = c.args.names.now in
    table_all (map text names) c.loop-name.name-index (look_up c.loop-name.table) c.loop-name.invariant.1 (omega (arith, length-map names text, c.loop-name-test.false))
