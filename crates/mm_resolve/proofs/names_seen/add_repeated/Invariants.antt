use Rattle.std.proofs.Common.{◌≡◌, ◌++◌, ℕ, List, map, take}
use Rattle.mm_resolve.specs.Doubles.{repeated, texts_of, Holds}
use Rattle.mm_resolve.proofs.names_seen.add_repeated.Given as goal

abbrev pub invariant-loop-thing : goal.invariant-loop-thing
invariant-loop-thing g l =
    ((before among : List (List ℕ)) → Holds l.outside before → Holds l.initial.seen among → l.lines ≡ l.initial.lines ++ repeated (before ++ among) (map g.T.HasName.name (take l.thing-index l.things)))
    × ((among : List (List ℕ)) → Holds l.initial.seen among → Holds l.seen (among ++ texts_of (map g.T.HasName.name (take l.thing-index l.things))))
