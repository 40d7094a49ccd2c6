use Rattle.std.proofs.Common.{[], ◌++◌, map, ◌∙◌, ap}
use Rattle.std.proofs.lemmas.List.{append-nil, map-id}
use Rattle.mm_resolve.specs.Doubles.{repeated}
use Rattle.mm_resolve.proofs.DoubleLemmas.{none_held}
use Rattle.mm_resolve.proofs.double_name.add_inner.Goals as goal

pub returns : goal.returns
returns c = λ before outside.
    c.in_ok-add_repeated.ensures.lines before [] outside (none_held (λ k. k.now) c.new-seen.result.keys c.new-seen.ensures.empty)
    ∙ ap (λ texts. c.args.lines.now ++ repeated texts (map (λ name. name) c.args.params.now)) (append-nil before)
    ∙ ap (λ names. c.args.lines.now ++ repeated before names) (map-id c.args.params.now)
