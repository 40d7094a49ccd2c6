use Rattle.std.proofs.Common.{◌≡◌, ◌++◌, take}
use Rattle.std.specs.Prelude.{flat_map}
use Rattle.mm_spell.specs.Listed.{kinds}
use Rattle.mm_spell_bodies.specs.BodyTokens.{statement_tokens}
use Rattle.mm_spell_bodies.proofs.rvalues.write_statements.Given as goal

abbrev pub invariant-loop-statement : goal.invariant-loop-statement
invariant-loop-statement l = kinds l.out.items ≡ kinds l.fn.out.items ++ flat_map statement_tokens (take l.statement-index l.statements)
