use Rattle.mm_collect.proofs.UseLemmas.{Scanned}
use Rattle.mm_collect.proofs.uses.uses.Given as goal

-- the blocks so far are scanned
abbrev pub invariant-loop-block : goal.invariant-loop-block
invariant-loop-block l = Scanned l.p l.limit l.args l.block-items l.block-index l.used.items l.over
