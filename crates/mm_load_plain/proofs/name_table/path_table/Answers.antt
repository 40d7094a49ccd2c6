use Rattle.std.proofs.Common.{◌≡◌, ◌<◌, length, map, get_or, sym, ◌∙◌, ap, arith}
use Rattle.std.proofs.lemmas.List.{get_or-map, length-map}
use Rattle.mm_load_plain.specs.Names.{look_up}
use Rattle.mm_load_plain.specs.Seen.{function_seen}
use Rattle.mm_load_plain.proofs.IndexLemmas.{table_more, table_all}
use Rattle.mm_load_plain.proofs.name_table.path_table.Goals as goal

pub loop-index-preserved : goal.loop-index-preserved
loop-index-preserved c =
    let written = c.args.functions.now in
    let functions = map function_seen written in
    let paths = map (λ d. d.path) functions in
    let i = c.loop-index.index in
    let function = c.index-functions-index.result in
    let path = c.as_slice.result.now in
    let within : i < length functions = omega (arith, length-map written function_seen, c.loop-index-test.true) in
    let at : path ≡ get_or paths i path = c.as_slice.ensures ∙ ap (λ d. d.path) c.index-functions-index.is ∙ sym (ap (λ d. d.path) (get_or-map function_seen written i function (function_seen function) c.loop-index-test.true)) ∙ sym (get_or-map (λ d. d.path) functions i (function_seen function) path within) in
    table_more paths i (look_up c.loop-index.table) (look_up c.note.new.table) path c.loop-index.invariant (omega (arith, within, length-map functions (λ d. d.path))) at c.in_ok-note.ensures

pub returns : goal.returns
returns c =
    let written = c.args.functions.now in
    table_all (map (λ d. d.path) (map function_seen written)) c.loop-index.index (look_up c.loop-index.table) c.loop-index.invariant (omega (arith, length-map written function_seen, length-map (map function_seen written) (λ d. d.path)))
