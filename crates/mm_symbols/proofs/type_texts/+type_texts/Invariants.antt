use Rattle.std.proofs.Common.{◌≡◌, ◌++◌, map, drop}
use Rattle.std.specs.List.{flat_map}
use Rattle.mm_symbols.specs.TypeText.{behind, list_text, type_text}
use Rattle.mm_symbols.proofs.type_texts.+type_texts.Given as goal

-- what is written, and the types that are left, is the list
abbrev pub invariant-write_list-loop-tree : goal.invariant-write_list-loop-tree
invariant-write_list-loop-tree l = l.out.items ++ flat_map behind (map (type_text l.p) (drop l.tree-index l.others)) ≡ l.fn.out.items ++ list_text (map (type_text l.p) l.trees)
