use Rattle.std.proofs.Common.{◌≡◌, ◌++◌, take}
use Rattle.std.specs.Prelude.{flat_map}
use Rattle.mm_spell.specs.Listed.{kinds}
use Rattle.mm_print.specs.ItemTokens.{crate_tokens}
use Rattle.mm_print.proofs.krates.write_crates.Given as goal

abbrev pub invariant-loop-krate : goal.invariant-loop-krate
invariant-loop-krate l = kinds l.out.items ≡ kinds l.fn.out.items ++ flat_map crate_tokens (take l.krate-index l.crates)
