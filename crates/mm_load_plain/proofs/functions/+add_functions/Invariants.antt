use Rattle.std.proofs.Common.{◌≡◌, ◌++◌, map, take}
use Rattle.std.specs.List.{flat_map}
use Rattle.mm_load_plain.specs.Seen.{function_seen}
use Rattle.mm_load_plain.specs.WrittenItem.{defined_by, functions_in, path_in, name_of}
use Rattle.mm_definitions.specs.Trees.{items_in}
use Rattle.mm_ast.specs.declared.items.Item.TheViews.{out-Item}
use Rattle.mm_load_plain.proofs.functions.+add_functions.Given as goal

abbrev pub invariant-loop-inner : goal.invariant-loop-inner
invariant-loop-inner l =
    map function_seen l.functions.items
    ≡ map function_seen l.fn.functions.items ++ defined_by (path_in l.prefix (name_of l.item).text) (out-Item l.item).line (out-Item l.item).form ++ flat_map (λ inner. functions_in inner (path_in l.prefix (name_of l.item).text)) (take l.inner-index (items_in l.item))
