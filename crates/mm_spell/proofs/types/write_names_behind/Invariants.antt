use Rattle.std.proofs.Common.{◌≡◌, ◌++◌, map, take}
use Rattle.std.specs.Prelude.{flat_map}
use Rattle.mm_spell.specs.Listed.{kinds, behind_comma}
use Rattle.mm_spell.specs.TypeTokens.{name_tokens}
use Rattle.mm_spell.proofs.types.write_names_behind.Given as goal

abbrev pub invariant-loop-name : goal.invariant-loop-name
invariant-loop-name l = kinds l.out.items ≡ kinds l.fn.out.items ++ flat_map behind_comma (map name_tokens (take l.name-index l.names))
