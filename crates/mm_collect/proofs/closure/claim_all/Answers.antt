use Rattle.std.proofs.Common.{rules, ◌≡◌, ◌∷◌, ◌++◌, Contains, ap, sym, ◌∙◌}
use Rattle.std.specs.Vec.Iter.{into_iter_items}
use Rattle.std.proofs.lemmas.List.Elements.{All-same, All-cons, All-head, All-tail}
use Rattle.indexmap.specs.IndexSet.{insert_all}
use Rattle.mm_terms.specs.Same.{same_item}
use Rattle.mm_collect.proofs.GrowthLemmas.{carried, in_prefix, behind}
use Rattle.mm_collect.proofs.closure.claim_all.Goals as goal

pub loop-item-init : goal.loop-item-init
loop-item-init c =
    let old = c.args.found.now.keys in
    let items = c.args.items.items in
    let left : into_iter_items c.into_iter-item-iterator.result ≡ items = search rules in
    (tt, tt, c.requires, ap (insert_all same_item old) left, in_prefix old items, All-same (Contains (old ++ items)) _ _ left (behind old items))

pub loop-item-preserved : goal.loop-item-preserved
loop-item-preserved c =
    let P = Contains (c.args.found.now.keys ++ c.args.items.items) in
    let keys = c.loop-item.found.keys in
    let item = c.in-Some.item in
    let rest = into_iter_items c.next.new.self in
    let left : into_iter_items c.loop-item.item-iterator ≡ item ∷ rest = search rules in
    let both = All-same P (item ∷ rest) _ (sym left) c.loop-item.invariant.5 in (
      tt,
      tt,
      c.in_ok-claim.ensures.within,
      ap (λ ks. insert_all same_item ks rest) c.in_ok-claim.ensures.claimed ∙ ap (insert_all same_item keys) (sym left) ∙ c.loop-item.invariant.3,
      carried P (item ∷ keys) _ (All-cons P item keys (All-head P item rest both) c.loop-item.invariant.4) c.claim.ensures.among,
      All-tail P item rest both,
    )

pub returns-in_err-claim-clause-among : goal.returns-in_err-claim-clause-among
returns-in_err-claim-clause-among c =
    let P = Contains (c.args.found.now.keys ++ c.args.items.items) in
    let keys = c.loop-item.found.keys in
    let item = c.in-Some.item in
    let rest = into_iter_items c.next.new.self in
    let left : into_iter_items c.loop-item.item-iterator ≡ item ∷ rest = search rules in
    carried P (item ∷ keys) _ (All-cons P item keys (All-head P item rest (All-same P (item ∷ rest) _ (sym left) c.loop-item.invariant.5)) c.loop-item.invariant.4) c.claim.ensures.among
