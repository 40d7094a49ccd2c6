use Rattle.std.proofs.Common.{◌≡◌, ◌∙◌, sym, ap, length, arith}
use Rattle.std.specs.Ordering.{nat_cmp}
use Rattle.mm_terms.specs.Order.{tree_cmp}
use Rattle.mm_terms.specs.Tree.{children_of}
use Rattle.mm_terms.proofs.OrderLemmas.{other_heads, same_heads, by_lengths}
use Rattle.mm_terms.proofs.tree.TreeOrd.+cmp.Goals as goal

pub returns-then-is_ne : goal.returns-then-is_ne
returns-then-is_ne t c =
    other_heads c.args.self.now c.args.other.now c.cmp-by_head.result c.cmp-by_head.ensures c.is_ne.result c.is_ne.ensures c.if-is_ne.true

pub loop-i-init : goal.loop-i-init
loop-i-init t c = record {
  same = same_heads c.args.self.now c.args.other.now c.cmp-by_head.result c.cmp-by_head.ensures c.is_ne.result c.is_ne.ensures c.if-is_ne.false;
  within = omega arith;
}

pub returns : goal.returns
returns t c =
    let xs = children_of c.args.self.now in
    let ys = children_of c.args.other.now in
    let at_end : c.loop-i.i ≡ length xs = let all = ap length c.as_slice-child-items.ensures in omega arith in
    let lengths : c.cmp.result ≡ nat_cmp (length xs) (length ys) =
    c.cmp.ensures ∙ (λ i. nat_cmp (c.len.ensures i) (length (c.as_slice-others.ensures i))) in
    lengths ∙ sym (c.loop-i.invariant.same ∙ by_lengths tree_cmp xs ys c.loop-i.i at_end c.loop-i.invariant.within)
