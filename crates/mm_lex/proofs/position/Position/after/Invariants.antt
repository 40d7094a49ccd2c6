use Rattle.std.specs.Str.Iter.{chars_rest}
use Rattle.mm_lex.proofs.PositionLaws.{IsPassing}
use Rattle.mm_lex.proofs.position.Position.after.Given as goal

abbrev pub invariant-loop-c : goal.invariant-loop-c
invariant-loop-c l =
    (goal.iterator-loop-c).can_next l.c-iterator × (goal.iterator-loop-c).is_finite l.c-iterator
    × IsPassing l.fn.self l.at l.passed (chars_rest l.c-iterator)
