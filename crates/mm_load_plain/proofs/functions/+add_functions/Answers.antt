use Rattle.std.proofs.Common.{◌++◌, map, length, sym, ◌∙◌, ap, arith}
use Rattle.std.proofs.lemmas.List.{take_all, append_assoc}
use Rattle.std.specs.List.{flat_map}
use Rattle.mm_load_plain.specs.Seen.{function_seen}
use Rattle.mm_load_plain.specs.WrittenItem.{defined_by, functions_in, path_in, name_of}
use Rattle.mm_definitions.specs.Trees.{items_in}
use Rattle.mm_ast.specs.declared.items.Item.TheViews.{out-Item}
use Rattle.mm_load_plain.proofs.ItemLemmas.{functions_in-parts}
use Rattle.mm_load_plain.proofs.functions.+add_functions.Goals as goal

pub returns : goal.returns
returns t c =
    let item = c.args.item.now in
    let prefix = c.args.prefix.now in
    let path = path_in prefix (name_of item).text in
    let old = map function_seen c.args.functions.now.items in
    let all = ap (λ l. old ++ defined_by path (out-Item item).line (out-Item item).form ++ flat_map (λ inner. functions_in inner path) l) (take_all c.loop-inner.inner-index (items_in item) (omega (arith, ap length c.as_slice-inner-items.ensures))) in
    c.loop-inner.invariant ∙ all ∙ append_assoc old (defined_by path (out-Item item).line (out-Item item).form) (flat_map (λ inner. functions_in inner path) (items_in item)) ∙ ap (λ l. old ++ l) (sym (functions_in-parts item prefix))
