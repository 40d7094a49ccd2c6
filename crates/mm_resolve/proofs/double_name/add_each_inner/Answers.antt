use Rattle.std.proofs.Common.{◌++◌, sym, ◌∙◌, ap}
use Rattle.std.proofs.lemmas.List.{take_all}
use Rattle.std.proofs.lemmas.List.Folds.{flat_map-map}
use Rattle.std.specs.List.{flat_map}
use Rattle.mm_resolve.specs.Doubles.{repeated}
use Rattle.mm_resolve.proofs.double_name.add_each_inner.Goals as goal

pub returns : goal.returns
returns g c = λ before outside.
    c.loop-method.invariant before outside
    ∙ ap (λ ms. c.args.lines.now ++ flat_map (λ m. repeated before (g.T.HasParams.params m)) ms) (take_all c.loop-method.method-index c.args.methods.now c.loop-method-test.false)
    ∙ ap (λ lines. c.args.lines.now ++ lines) (sym (flat_map-map (repeated before) g.T.HasParams.params c.args.methods.now))
