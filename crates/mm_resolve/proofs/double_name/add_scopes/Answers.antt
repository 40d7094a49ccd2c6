use Rattle.std.proofs.Common.{[], ◌++◌, map, ◌∙◌, ap}
use Rattle.std.proofs.lemmas.List.{append_assoc, map-id}
use Rattle.std.specs.List.{flat_map, list_any}
use Rattle.std.specs.Str.{bytes_eq}
use Rattle.mm_resolve.specs.Doubles.{repeated, texts_of}
use Rattle.mm_resolve.proofs.DoubleLemmas.{none_held}
use Rattle.mm_resolve.proofs.double_name.add_scopes.Goals as goal

pub returns : goal.returns
returns g c =
    let params = c.args.params.now in
    let inner = flat_map (repeated (texts_of params)) (map g.T.HasParams.params c.args.methods.now) in
    let outside = none_held (λ k. k.now) c.new-outside.result.keys c.new-outside.ensures.empty in
    let none = none_held (λ k. k.now) c.new-seen.result.keys c.new-seen.ensures.empty in
    c.in_ok-add_each_inner.ensures (texts_of params) (λ q. c.in_ok-add_repeated.ensures.seen [] none q ∙ ap (λ names. list_any (bytes_eq q) (texts_of names)) (map-id params))
    ∙ ap (λ lines. lines ++ inner) (c.in_ok-add_repeated.ensures.lines [] [] outside none ∙ ap (λ names. c.args.lines.now ++ repeated [] names) (map-id params))
    ∙ append_assoc c.args.lines.now (repeated [] params) inner
