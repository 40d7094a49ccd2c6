use Rattle.std.proofs.Common.{◌≡◌, [], ◌∷◌, filter, Bool, true, false, cond, None, Some, refl, sym, ◌∙◌, ap, arith}
use Rattle.std.proofs.lemmas.List.{take_all}
use Rattle.std.specs.Option.{option_or}
use Rattle.mm_resolve.specs.Resolving.{look_up, first_of}
use Rattle.mm_resolve.proofs.TableLemmas.{or_none, kept_more}
use Rattle.mm_resolve.proofs.scope_table.add_shared.Goals as goal

pub loop-named-init : goal.loop-named-init
loop-named-init c = λ kind path. sym (or_none (look_up c.args.index.now kind path))

pub loop-named-preserved : goal.loop-named-preserved
loop-named-preserved c = λ kind path.
    kept_more c.args.defs.now c.loop-named.named-index kind path c.named-item.result (λ d. d.is_pub) (look_up c.args.index.now kind path) (look_up c.add_if_pub.new.index kind path) (look_up c.loop-named.index kind path)
    (c.loop-named.invariant kind path) c.loop-named-test.true c.named-item.is (c.in_ok-add_if_pub.ensures kind path)

pub returns : goal.returns
returns c = λ kind path.
    c.loop-named.invariant kind path ∙ ap (λ ds. option_or (look_up c.args.index.now kind path) (first_of (filter (λ d. d.is_pub) ds) kind path)) (take_all c.loop-named.named-index c.args.defs.now c.loop-named-test.false)
