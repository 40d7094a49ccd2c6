use Rattle.std.proofs.Common.{◌≡◌, ◌++◌, drop, codes}
use Rattle.std.specs.List.{flat_map}
use Rattle.mm_symbols.specs.SymbolText.{seg_text, path_text}
use Rattle.mm_symbols.proofs.writing.write_path.Given as goal

-- what is written, and the names that are left, is the path
abbrev pub invariant-loop-name : goal.invariant-loop-name
invariant-loop-name l = l.out.items ++ flat_map seg_text (drop l.name-index l.names) ++ codes "E" ≡ l.fn.out.items ++ path_text l.names
