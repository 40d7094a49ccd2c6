use Rattle.std.proofs.Common.{arith, get_or, take}
use Rattle.std.specs.Prelude.{◌≢◌}
use Rattle.std.specs.declared.cmp.Ordering.TheVariants.{Less}
use Rattle.std.proofs.lemmas.List.Elements.{All-weaker}
use Rattle.mm_objects.specs.Linking.{clash_cmp}
use Rattle.mm_link.proofs.Least.{all_more, all_taken}
use Rattle.mm_link.proofs.clash.least.Goals as goal

pub loop-i-preserved : goal.loop-i-preserved
loop-i-preserved c =
    let xs = c.args.clashes.now in
    let i = c.loop-i.i in
    let best = c.loop-i.best in
    let new = c.lesser-best.result in (
      c.lesser-best.ensures.within,
      λ d.
          all_more (λ y. clash_cmp y (get_or xs new d) ≢ Less) xs i d c.loop-i-test.true
          (All-weaker (λ y. clash_cmp y (get_or xs best d) ≢ Less) (λ y. clash_cmp y (get_or xs new d) ≢ Less) (λ y. c.lesser-best.ensures.keeps d y) (take i xs) (c.loop-i.invariant.1 d))
          (c.lesser-best.ensures.least d),
    )

pub returns : goal.returns
returns c =
    let xs = c.args.clashes.now in
    (c.loop-i.invariant.0, λ d. all_taken (λ y. clash_cmp y (get_or xs c.loop-i.best d) ≢ Less) xs c.loop-i.i (omega (arith, c.loop-i-test.false)) (c.loop-i.invariant.1 d))
