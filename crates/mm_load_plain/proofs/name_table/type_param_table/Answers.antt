use Rattle.std.proofs.Common.{◌≡◌, ◌<◌, length, map, get_or, sym, ◌∙◌, ap, arith}
use Rattle.std.proofs.lemmas.List.{get_or-map, length-map}
use Rattle.mm_load_plain.specs.Names.{look_up}
use Rattle.mm_load_plain.proofs.IndexLemmas.{table_more, table_all}
use Rattle.mm_load_plain.proofs.name_table.type_param_table.Goals as goal

pub loop-index-preserved : goal.loop-index-preserved
loop-index-preserved c =
    let params = c.args.function.now.type_params in
    let i = c.loop-index.index in
    let texts = map (λ n. n.text) params in
    let name = c.as_slice.result.now in
    let param = c.param-item.result in
    let within : i < length params = omega (arith, ap length c.as_slice-param-items.ensures) in
    let at : name ≡ get_or texts i name = c.as_slice.ensures ∙ ap (λ n. n.text) (c.param-item.is ∙ ap (λ l. get_or l i param) c.as_slice-param-items.ensures) ∙ sym (get_or-map (λ n. n.text) params i param name within) in
    table_more texts i (look_up c.loop-index.table) (look_up c.note.new.table) name c.loop-index.invariant (omega (arith, length-map params (λ n. n.text))) at c.in_ok-note.ensures

pub returns : goal.returns
returns c =
    let params = c.args.function.now.type_params in
    table_all (map (λ n. n.text) params) c.loop-index.index (look_up c.loop-index.table) c.loop-index.invariant (omega (arith, length-map params (λ n. n.text), ap length c.as_slice-param-items.ensures))
