use Rattle.std.proofs.Common.{◌≡◌, ◌++◌, map, drop}
use Rattle.std.specs.Prelude.{flat_map}
use Rattle.mm_spell.specs.Listed.{behind_comma, kinds, listed}
use Rattle.mm_spell_bodies.specs.TermTokens.{term_tokens}
use Rattle.mm_spell_bodies.proofs.terms.+terms.Given as goal

-- what is written, and the terms that are left, is the list
abbrev pub invariant-write_listed-loop-term : goal.invariant-write_listed-loop-term
invariant-write_listed-loop-term l = kinds l.out.items ++ flat_map behind_comma (map term_tokens (drop l.term-index l.others)) ≡ kinds l.fn.out.items ++ listed (map term_tokens l.terms)
