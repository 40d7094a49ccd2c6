use Rattle.std.proofs.Common.{length, ◌∙◌, sym, ap}
use Rattle.mm_terms.proofs.SameLemmas.{other_heads, same_heads, other_lengths}
use Rattle.mm_terms.proofs.tree.TreePartialEq.+eq.Goals as goal
use Rattle.mm_terms.proofs.tree.TreePartialEq.+eq.Goals.{then-ne-via-then-ne, then-ne-via-else-ne+then-len-others}

pub returns-then-ne : goal.returns-then-ne
returns-then-ne t c =
    elim c.then-ne.branch [
      | then-ne-via-then-ne w ↦ other_heads c.args.self.now c.args.other.now c.ne.result c.ne.ensures w.if-ne.true
      | then-ne-via-else-ne+then-len-others w ↦
          other_lengths c.args.self.now c.args.other.now (λ e. w.if-len-others.true (w.len.ensures ∙ e ∙ sym (ap length c.as_slice-others.ensures)))
    ]

pub loop-i-init : goal.loop-i-init
loop-i-init t c = same_heads c.args.self.now c.args.other.now c.ne.result c.ne.ensures c.if-ne.false
