use Rattle.std.proofs.Common.{[], ◌∷◌, ◌++◌, map, take, sym, ◌∙◌, ap}
use Rattle.std.proofs.lemmas.List.{append-nil, take_all}
use Rattle.std.specs.List.{list_any}
use Rattle.std.specs.Str.{bytes_eq}
use Rattle.mm_resolve.specs.Doubles.{again, repeated, texts_of}
use Rattle.mm_resolve.proofs.DoubleLemmas.{repeated_more, texts_more}
use Rattle.mm_resolve.proofs.names_seen.add_repeated.Goals as goal

pub loop-thing-init : goal.loop-thing-init
loop-thing-init g c = (
  λ before among outside seen. sym (append-nil c.args.lines.now),
  λ among seen q. seen q ∙ ap (list_any (bytes_eq q)) (sym (append-nil among)),
)

pub loop-thing-preserved : goal.loop-thing-preserved
loop-thing-preserved g c =
    let f = g.T.HasName.name in
    let i = c.loop-thing.thing-index in
    let xs = c.args.things.now in
    let x = c.thing-item.result in
    let texts = texts_of (map f (take i xs)) in (
      λ before among outside seen.
          repeated_more f xs i x c.loop-thing-test.true c.thing-item.is before among c.args.lines.now c.loop-thing.lines c.add_again.new.lines
          (c.loop-thing.invariant.0 before among outside seen)
          (c.in_ok-add_again.ensures.lines before (among ++ texts) outside (c.loop-thing.invariant.1 among seen)
          ∙ ap (λ n. c.loop-thing.lines ++ again (before ++ (among ++ texts)) n) c.name.ensures),
      λ among seen q.
          c.in_ok-add_again.ensures.seen (among ++ texts) (c.loop-thing.invariant.1 among seen) q
          ∙ ap (λ n. list_any (bytes_eq q) ((among ++ texts) ++ n.text ∷ [])) c.name.ensures
          ∙ ap (list_any (bytes_eq q)) (texts_more f xs i x c.loop-thing-test.true c.thing-item.is among),
    )

pub returns-clause-lines : goal.returns-clause-lines
returns-clause-lines g c = λ before among outside seen.
    c.loop-thing.invariant.0 before among outside seen
    ∙ ap (λ xs. c.args.lines.now ++ repeated (before ++ among) (map g.T.HasName.name xs)) (take_all c.loop-thing.thing-index c.args.things.now c.loop-thing-test.false)

pub returns-clause-seen : goal.returns-clause-seen
returns-clause-seen g c = λ among seen q.
    c.loop-thing.invariant.1 among seen q
    ∙ ap (λ xs. list_any (bytes_eq q) (among ++ texts_of (map g.T.HasName.name xs))) (take_all c.loop-thing.thing-index c.args.things.now c.loop-thing-test.false)
