use Rattle.std.proofs.Common.{◌≡◌, ◌++◌, map, take}
use Rattle.std.specs.Prelude.{flat_map}
use Rattle.mm_spell.specs.Listed.{kinds, behind_comma}
use Rattle.mm_print.specs.ItemTokens.{bound_tokens}
use Rattle.mm_print.proofs.functions.write_more_bounds.Given as goal

abbrev pub invariant-loop-bound : goal.invariant-loop-bound
invariant-loop-bound l = kinds l.out.items ≡ kinds l.fn.out.items ++ flat_map behind_comma (map bound_tokens (take l.bound-index l.bounds))
