use Rattle.std.specs.Str.Iter.{chars_rest}
use Rattle.mm_lex.proofs.PositionLaws.{IsPassing-step, IsPassing-end, past-line, past-column}
use Rattle.mm_lex.proofs.position.Position.after.Goals as goal

pub loop-c-preserved-then-c-eq10 : goal.loop-c-preserved-then-c-eq10
loop-c-preserved-then-c-eq10 c =
    let same = past-line c.loop-c.at c.in-Some.c c.len_utf8.result c.len_utf8.ensures.value c.if-c-eq10.true in
    (tt, tt, IsPassing-step c.args.self c.loop-c.at _ c.args.passed.now (chars_rest c.loop-c.c-iterator) (chars_rest c.next.new.self) c.in-Some.c c.loop-c.invariant.2 c.in-Some.ensures.steps.0 same)

pub loop-c-preserved : goal.loop-c-preserved
loop-c-preserved c =
    let same = past-column c.loop-c.at c.in-Some.c c.len_utf8.result c.len_utf8.ensures.value c.if-c-eq10.false in
    (tt, tt, IsPassing-step c.args.self c.loop-c.at _ c.args.passed.now (chars_rest c.loop-c.c-iterator) (chars_rest c.next.new.self) c.in-Some.c c.loop-c.invariant.2 c.in-Some.ensures.steps.0 same)

pub returns-clause-position : goal.returns-clause-position
returns-clause-position c =
    IsPassing-end c.args.self c.loop-c.at c.args.passed.now (chars_rest c.loop-c.c-iterator) c.loop-c.invariant.2 c.in-None.ensures.steps.0.0
