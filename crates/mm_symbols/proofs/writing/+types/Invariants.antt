use Rattle.std.proofs.Common.{◌≡◌, ◌++◌, map, drop}
use Rattle.std.specs.List.{concat}
use Rattle.mm_symbols.specs.SymbolText.{type_text}
use Rattle.mm_symbols.proofs.writing.+types.Given as goal

-- what is written, and the types that are left, is all of them
abbrev pub invariant-write_types-loop-ty : goal.invariant-write_types-loop-ty
invariant-write_types-loop-ty l = l.out.items ++ concat (map type_text (drop l.ty-index l.types)) ≡ l.fn.out.items ++ concat (map type_text l.types)
