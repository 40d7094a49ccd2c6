use Rattle.std.proofs.Common.{◌≡◌, ◌++◌, [], ◌∷◌, refl, inl, inr, map, codes, subst}
use Rattle.mm_outside.specs.Whole.{WritesPrefix}
use Rattle.mm_tool.specs.Report.{Answers, IsSettled, Reports, ReportsPrefix}
use Rattle.mm_tool.proofs.Reports.{IfSome-all, IfSome-then}
use Rattle.mm_tool.proofs.tool.tool_one.Goals as goal

pub returns-in_default-clause-report : goal.returns-in_default-clause-report
returns-in_default-clause-report g c = IfSome-all (g.S.Source.left c.args.source.now) (λ text. IsSettled c.put.result → Reports (map (λ w. w.now) c.args.words.now) text c.put.result (g.K.Sink.written c.args.sink.now) (g.K.Sink.written c.put.new.sink)) (λ text settled. record {
  output = codes "error: bad words" ++ 10 ∷ [];
  report = inr (record { status_is = (c.put.ensures.whole settled.1).0; none = c.in_default.ensures.none refl; output_is = refl });
  written = (c.put.ensures.whole settled.1).1;
})

pub returns-in_default-clause-bad_words : goal.returns-in_default-clause-bad_words
returns-in_default-clause-bad_words g c two command are = c.in_default.ensures.none refl command are

pub returns-in_default-clause-ended : goal.returns-in_default-clause-ended
returns-in_default-clause-ended g c command others = absurd (c.in_default.ensures.none refl command.0 command.1)

pub returns-in_default-clause-cut : goal.returns-in_default-clause-cut
returns-in_default-clause-cut g c = IfSome-all (g.S.Source.left c.args.source.now) (λ text. c.put.result ≡ 21 → ReportsPrefix (map (λ w. w.now) c.args.words.now) text (g.K.Sink.written c.args.sink.now) (g.K.Sink.written c.put.new.sink)) (λ text is. record {
  status = 2;
  output = codes "error: bad words" ++ 10 ∷ [];
  report = inr (record { status_is = refl; none = c.in_default.ensures.none refl; output_is = refl });
  written = c.put.ensures.cut is;
})

pub returns-in-Ok-clause-cut : goal.returns-in-Ok-clause-cut
returns-in-Ok-clause-cut g c = IfSome-then (g.S.Source.left c.args.source.now) (λ text. Answers c.in-Some.command text c.in-Ok.answer.status c.in-Ok.answer.output.items) (λ text. c.put-in-Ok.result ≡ 21 → ReportsPrefix (map (λ w. w.now) c.args.words.now) text (g.K.Sink.written c.args.sink.now) (g.K.Sink.written c.put-in-Ok.new.sink)) c.in-Ok.ensures.ok (λ text answer is. record {
  status = c.in-Ok.answer.status;
  output = c.in-Ok.answer.output.items;
  report = inl (record { command = c.in-Some.command; words_are = c.in-Some.ensures.some; answer = answer });
  written = subst (WritesPrefix (g.K.Sink.written c.args.sink.now) (g.K.Sink.written c.put-in-Ok.new.sink)) c.deref.ensures.value (c.put-in-Ok.ensures.cut is);
})
