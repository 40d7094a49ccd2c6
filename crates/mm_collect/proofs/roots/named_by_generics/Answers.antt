use Rattle.std.proofs.Common.{◌≡◌, ◌+◌, length, true, false, ap, sym, subst, ◌∙◌, arith}
use Rattle.std.proofs.lemmas.Bool.Decides.{nat_tests}
use Rattle.mm_plain.specs.Roots.{AreMarks, is_generic}
use Rattle.mm_collect.proofs.RootLemmas.{first_generic, generic_taken, generic_passed}
use Rattle.mm_collect.proofs.roots.named_by_generics.Goals as goal
use Rattle.mm_collect.proofs.roots.named_by_generics.Goals.{then-function-gt0, else-function-gt0}

pub loop-function-preserved : goal.loop-function-preserved
loop-function-preserved c =
    let fs = c.as_slice-function-items.result.now in
    let n = c.loop-function.function-index in
    let f = c.function-item.result in
    elim c.if-function-gt0.branch [
      | then-function-gt0 w ↦
          let generic : is_generic f ≡ true = grind (arith, nat_tests) in (
            ap (λ v. length v.items) w.marks-is ∙ w.mark_callees.ensures.count ∙ c.loop-function.invariant.0,
            subst (AreMarks (first_generic fs (n + 1))) (sym (ap (λ v. v.items) w.marks-is))
                (subst (λ calls. AreMarks calls w.mark_callees.new.marks.items) (sym (generic_taken fs n f c.loop-function-test.true c.function-item.is generic)) (w.mark_callees.ensures.marked (first_generic fs n) c.loop-function.invariant.1)),
          )
      | else-function-gt0 w ↦
          let plain : is_generic f ≡ false = grind (arith, nat_tests) in (
            ap (λ v. length v.items) w.marks-is ∙ c.loop-function.invariant.0,
            subst (AreMarks (first_generic fs (n + 1))) (sym (ap (λ v. v.items) w.marks-is))
                (subst (λ calls. AreMarks calls c.loop-function.marks.items) (sym (generic_passed fs n f c.loop-function-test.true c.function-item.is plain)) c.loop-function.invariant.1),
          )
    ]
