use Rattle.std.proofs.Common.{rules, [], ◌∷◌, ◌++◌, ap, ◌∙◌, sym}
use Rattle.mm_terms.specs.declared.item.Item.TheVariants.{Fn}
use Rattle.mm_collect.proofs.RootLemmas.{one_taken, one_passed, all_roots}
use Rattle.mm_collect.proofs.roots.roots.Goals as goal
use Rattle.mm_collect.proofs.roots.roots.Goals.{then-is_root+in_ok-push, else-is_root}

pub loop-place-preserved : goal.loop-place-preserved
loop-place-preserved c =
    let fs = c.as_slice-function-items.result.now in
    elim c.if-is_root.branch [
      | then-is_root+in_ok-push w ↦
          ap (λ v. v.items) w.roots-is
          ∙ w.in_ok-push.ensures.items
          ∙ (λ i. c.loop-place.invariant i ++ Fn (record { 0 = c.in-Ok.id }) (w.new.ensures i) ∷ [])
          ∙ sym (one_taken c.args.p.now fs c.loop-place.place c.in-Ok.id c.function-item.result (search rules) (search rules) c.in-Ok.ensures.1 (sym c.is_root.ensures ∙ w.if-is_root.true))
      | else-is_root w ↦
          ap (λ v. v.items) w.roots-is
          ∙ c.loop-place.invariant
          ∙ sym (one_passed c.args.p.now fs c.loop-place.place c.in-Ok.id c.function-item.result (search rules) (search rules) c.in-Ok.ensures.1 (sym c.is_root.ensures ∙ w.if-is_root.false))
    ]

pub returns : goal.returns
returns c = search (rules, all_roots)
