use Rattle.mm_objects.proofs.FaultLaws.{last-of, cut-some, given-ok, given-bad}
use Rattle.mm_objects.proofs.SplitLemmas.{cut_at}
use Rattle.mm_objects.proofs.reading.read_objects.Goals as goal

pub returns-clause-ok : goal.returns-clause-ok
returns-clause-ok c =
    let bytes = c.args.bytes.now in
    let h = last-of (cut_at 10 bytes) (cut-some 10 bytes) in
    given-ok bytes c.read.result h.prefix h.last h.is (c.read.ensures h.prefix h.last h.is)

pub returns-clause-bad : goal.returns-clause-bad
returns-clause-bad c =
    let bytes = c.args.bytes.now in
    let h = last-of (cut_at 10 bytes) (cut-some 10 bytes) in
    given-bad bytes c.read.result h.prefix h.last h.is (c.read.ensures h.prefix h.last h.is)
