use Rattle.std.proofs.Common.{rules, ◌≡◌, ◌<◌, [], ◌++◌, length, take, get_or, All, Contains, Err, subst, ap, sym, refl, ◌∙◌, arith}
use Rattle.std.proofs.lemmas.Result.{err_from_is_err_and}
use Rattle.std.proofs.lemmas.Option.{get_or_from_slice_get}
use Rattle.indexmap.specs.IndexSet.{insert_all}
use Rattle.mm_terms.specs.Closure.{AreMembers}
use Rattle.mm_terms.specs.Same.{same_item}
use Rattle.mm_collect.specs.declared.closure.Stop.TheVariants.{TooMany}
use Rattle.std.specs.Prelude.{flat_map}
use Rattle.mm_plain.specs.Finding.{AreInOrder}
use Rattle.mm_plain.specs.Notes.{IsLeast}
use Rattle.mm_collect.proofs.ClosingLemmas.{begun, members_first, members_still, no_shorter, scanned, whole, in_order, named_more, named_whole}
use Rattle.mm_collect.proofs.closure.members.Goals as goal

pub loop-item-init : goal.loop-item-init
loop-item-init g c =
    let roots = g.G.Graph.roots c.args.graph.now in
    let keys = c.claim_all.new.found.keys in
    let empty : c.new-found.result.keys ≡ [] = search rules in
    let given : c.in_ok-start.field-0.items ≡ roots = search rules in
    let among : All (Contains roots) keys = subst (λ xs. All (Contains xs) keys) (λ i. empty i ++ given i) c.claim_all.ensures.among in (
      begun roots (g.G.Graph.uses c.args.graph.now) keys among (c.in_ok-claim_all.ensures.claimed ∙ (λ i. insert_all same_item (empty i) (given i))),
      c.in_ok-claim_all.ensures.within,
      omega arith,
      refl,
    )

pub returns-in_err-claim_all-clause-too_many : goal.returns-in_err-claim_all-clause-too_many
returns-in_err-claim_all-clause-too_many g c stopped =
    let roots = g.G.Graph.roots c.args.graph.now in
    let keys = c.claim_all.new.found.keys in
    let empty : c.new-found.result.keys ≡ [] = search rules in
    let given : c.in_ok-start.field-0.items ≡ roots = search rules in
    let among : All (Contains roots) keys = subst (λ xs. All (Contains xs) keys) (λ i. empty i ++ given i) c.claim_all.ensures.among in
    let p = err_from_is_err_and c.from_residual-in_err-claim_all.result c.from_residual-in_err-claim_all.ensures.1 in
    let why : p.0 ≡ TooMany = grind arith in
    let stopped' : c.claim_all.result ≡ Err TooMany = c.in_err-claim_all.was ∙ ap Err (sym p.2 ∙ why) in
    record {
      items = keys;
      many = c.claim_all.ensures.too_many stopped';
      once = c.claim_all.ensures.once stopped';
      each = members_first roots (g.G.Graph.uses c.args.graph.now) keys among;
    }

pub returns-in_err-claim_all-2-clause-too_many : goal.returns-in_err-claim_all-2-clause-too_many
returns-in_err-claim_all-2-clause-too_many g c stopped =
    let roots = g.G.Graph.roots c.args.graph.now in
    let uses = g.G.Graph.uses c.args.graph.now in
    let old = c.loop-item.found.keys in
    let new = c.claim_all-in-Some.new.found.keys in
    let item = c.in-Some.item.now in
    let given : c.in_ok-scan.scan.used.items ≡ uses item = search rules in
    let within : c.loop-item.next < length old = search rules in
    let is : get_or old c.loop-item.next item ≡ item = get_or_from_slice_get old c.loop-item.next item item (sym c.in-Some.ensures.key) in
    let among : All (Contains (old ++ uses item)) new = subst (λ xs. All (Contains (old ++ xs)) new) given c.claim_all-in-Some.ensures.among in
    let p = err_from_is_err_and c.from_residual-in_err-claim_all-2.result c.from_residual-in_err-claim_all-2.ensures.1 in
    let why : p.0 ≡ TooMany = grind arith in
    let stopped' : c.claim_all-in-Some.result ≡ Err TooMany = c.in_err-claim_all-2.was ∙ ap Err (sym p.2 ∙ why) in
    record {
      items = new;
      many = c.claim_all-in-Some.ensures.too_many stopped';
      once = c.claim_all-in-Some.ensures.once stopped';
      each = members_still roots uses old new c.loop-item.next item c.loop-item.invariant.0 within is among;
    }

pub loop-item-preserved : goal.loop-item-preserved
loop-item-preserved g c =
    let roots = g.G.Graph.roots c.args.graph.now in
    let uses = g.G.Graph.uses c.args.graph.now in
    let old = c.loop-item.found.keys in
    let new = c.claim_all-in-Some.new.found.keys in
    let item = c.in-Some.item.now in
    let given : c.in_ok-scan.scan.used.items ≡ uses item = search rules in
    let within : c.loop-item.next < length old = search rules in
    let is : get_or old c.loop-item.next item ≡ item = get_or_from_slice_get old c.loop-item.next item item (sym c.in-Some.ensures.key) in
    let among : All (Contains (old ++ uses item)) new = subst (λ xs. All (Contains (old ++ xs)) new) given c.claim_all-in-Some.ensures.among in (
      scanned roots uses old new c.loop-item.next item c.loop-item.invariant.0 within is among (c.in_ok-claim_all-2.ensures.claimed ∙ ap (insert_all same_item old) given),
      c.in_ok-claim_all-2.ensures.within,
      (let more = no_shorter old c.in_ok-scan.scan.used.items new c.in_ok-claim_all-2.ensures.claimed in omega (arith, more, within)),
      subst (λ all. IsLeast all c.least_over-over.result)
          (sym (named_more (g.G.Graph.notes c.args.graph.now) old new c.loop-item.next item within is c.in_ok-scan.scan.used.items c.in_ok-claim_all-2.ensures.claimed))
          (c.least_over-over.ensures (flat_map (g.G.Graph.notes c.args.graph.now) (take c.loop-item.next old)) (g.G.Graph.notes c.args.graph.now item) c.loop-item.invariant.3 c.in_ok-scan.ensures.over),
    )

pub returns-clause-members : goal.returns-clause-members
returns-clause-members g c =
    let roots = g.G.Graph.roots c.args.graph.now in
    let uses = g.G.Graph.uses c.args.graph.now in
    let same : c.from_vec.result ≡ c.loop-item.found.keys = search rules in
    subst (AreMembers roots uses) (sym same) (whole roots uses c.loop-item.found.keys c.loop-item.next c.loop-item.invariant.0 (search rules) (search rules))

pub returns-clause-over : goal.returns-clause-over
returns-clause-over g c =
    let same : c.from_vec.result ≡ c.loop-item.found.keys = search rules in
    subst (λ all. IsLeast all c.loop-item.over)
    (named_whole (g.G.Graph.notes c.args.graph.now) c.loop-item.found.keys c.loop-item.next (search rules) ∙ ap (flat_map (g.G.Graph.notes c.args.graph.now)) (sym same))
    c.loop-item.invariant.3

pub returns-clause-order : goal.returns-clause-order
returns-clause-order g c =
    let roots = g.G.Graph.roots c.args.graph.now in
    let uses = g.G.Graph.uses c.args.graph.now in
    let same : c.from_vec.result ≡ c.loop-item.found.keys = search rules in
    subst (AreInOrder roots uses) (sym same) (in_order roots uses c.loop-item.found.keys c.loop-item.next c.loop-item.invariant.0 (search rules))
