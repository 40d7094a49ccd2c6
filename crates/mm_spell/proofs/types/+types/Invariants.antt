use Rattle.std.proofs.Common.{◌≡◌, ◌++◌, map, drop}
use Rattle.std.specs.Prelude.{flat_map}
use Rattle.mm_spell.specs.Listed.{kinds, behind_comma}
use Rattle.mm_spell.specs.TypeTokens.{type_tokens, types_tokens}
use Rattle.mm_spell.proofs.types.+types.Given as goal

-- what is written, and the types that are left, is the list
abbrev pub invariant-write_types-loop-ty : goal.invariant-write_types-loop-ty
invariant-write_types-loop-ty l = kinds l.out.items ++ flat_map behind_comma (map type_tokens (drop l.ty-index l.others)) ≡ kinds l.fn.out.items ++ types_tokens l.types
