use Rattle.std.proofs.Common.{◌≡◌, ◌++◌, take}
use Rattle.std.specs.Prelude.{flat_map}
use Rattle.mm_spell.specs.Listed.{kinds}
use Rattle.mm_print.specs.ItemTokens.{method_tokens}
use Rattle.mm_print.proofs.traits.write_methods.Given as goal

abbrev pub invariant-loop-method : goal.invariant-loop-method
invariant-loop-method l = kinds l.out.items ≡ kinds l.fn.out.items ++ flat_map method_tokens (take l.method-index l.methods)
