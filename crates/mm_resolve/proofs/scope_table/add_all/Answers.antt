use Rattle.std.proofs.Common.{◌≡◌, None, Some, sym, ◌∙◌, ap, arith}
use Rattle.std.proofs.lemmas.List.{take_all}
use Rattle.std.specs.Option.{option_or}
use Rattle.mm_resolve.specs.Resolving.{look_up, first_of}
use Rattle.mm_resolve.proofs.TableLemmas.{or_none, all_more}
use Rattle.mm_resolve.proofs.scope_table.add_all.Goals as goal

pub loop-named-init : goal.loop-named-init
loop-named-init c = λ kind path. sym (or_none (look_up c.args.index.now kind path))

pub loop-named-preserved : goal.loop-named-preserved
loop-named-preserved c = λ kind path.
    all_more c.args.defs.now c.loop-named.named-index kind path c.named-item.result (look_up c.args.index.now kind path) (look_up c.add.new.index kind path) (look_up c.loop-named.index kind path)
    (c.loop-named.invariant kind path) c.loop-named-test.true c.named-item.is (c.in_ok-add.ensures kind path)

pub returns : goal.returns
returns c = λ kind path.
    c.loop-named.invariant kind path ∙ ap (λ ds. option_or (look_up c.args.index.now kind path) (first_of ds kind path)) (take_all c.loop-named.named-index c.args.defs.now c.loop-named-test.false)
