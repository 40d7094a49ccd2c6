use Rattle.std.proofs.lemmas.Result.{MatchResult-from_err}
use Rattle.mm_outside.proofs.Bytes.{some_written}
use Rattle.mm_outside.proofs.adapters.write_flushed.Goals as goal

pub returns-in_err-flush-clause-prefix : goal.returns-in_err-flush-clause-prefix
returns-in_err-flush-clause-prefix g c =
    MatchResult-from_err _ _ _ c.from_residual-in_err-flush.ensures.0
    (λ _. some_written _ _ _ c.args.piece.now c.in_ok-count.count c.in_ok-count.ensures.bytes c.flush.ensures.bytes)
