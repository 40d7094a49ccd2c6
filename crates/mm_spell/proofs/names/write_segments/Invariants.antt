use Rattle.std.proofs.Common.{◌≡◌, ◌++◌, take}
use Rattle.std.specs.Prelude.{flat_map}
use Rattle.mm_spell.specs.Listed.{kinds}
use Rattle.mm_spell.specs.TypeTokens.{segment_tokens}
use Rattle.mm_spell.proofs.names.write_segments.Given as goal

abbrev pub invariant-loop-name : goal.invariant-loop-name
invariant-loop-name l = kinds l.out.items ≡ kinds l.fn.out.items ++ flat_map segment_tokens (take l.name-index l.names)
