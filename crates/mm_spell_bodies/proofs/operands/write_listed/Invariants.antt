use Rattle.std.proofs.Common.{◌≡◌, ◌++◌, map, drop}
use Rattle.std.specs.Prelude.{flat_map}
use Rattle.mm_spell.specs.Listed.{behind_comma, kinds, listed}
use Rattle.mm_spell_bodies.specs.BodyTokens.{operand_tokens}
use Rattle.mm_spell_bodies.proofs.operands.write_listed.Given as goal

-- what is written, and the operands that are left, is the list
abbrev pub invariant-loop-operand : goal.invariant-loop-operand
invariant-loop-operand l = kinds l.out.items ++ flat_map behind_comma (map operand_tokens (drop l.operand-index l.others)) ≡ kinds l.fn.out.items ++ listed (map operand_tokens l.operands)
