use Rattle.std.proofs.Common.{◌∙◌}
use Rattle.mm_outside.proofs.Bytes.{wrote_more}
use Rattle.mm_outside.proofs.whole.put_all.Goals as goal

pub loop-rest-preserved : goal.loop-rest-preserved
loop-rest-preserved g c = record {
  wrote = wrote_more _ _ c.in_ok-count.count _ _ _ c.loop-rest.invariant.wrote c.in_ok-count.ensures.bytes;
  kept = c.in_ok-count.ensures.cause.kept ∙ c.loop-rest.invariant.kept;
}
