use Rattle.std.proofs.Common.{subst, refl}
use Rattle.std.specs.Prelude.{flat_map}
use Rattle.mm_plain.specs.Notes.{IsLeast}
use Rattle.mm_plain.specs.Uses.{notes_of}
use Rattle.mm_collect.proofs.VerdictLemmas.{none_noted, least_noted, as_reported}
use Rattle.mm_collect.proofs.collection.collect.Goals as goal

pub returns-in-None-clause-accepted : goal.returns-in-None-clause-accepted
returns-in-None-clause-accepted c =
    none_noted c.args.p.now c.args.opts.now c.in-Ok.field-0.items c.in-Ok.ensures.members c.in-Ok.ensures.within
    (subst (IsLeast (flat_map (notes_of c.args.p.now c.args.opts.now.length) c.in-Ok.field-0.items)) c.in-None.is c.in-Ok.ensures.over)

pub returns-in-Some-clause-too_long : goal.returns-in-Some-clause-too_long
returns-in-Some-clause-too_long c path n is =
    let long = least_noted c.args.p.now c.args.opts.now c.in-Ok.field-0.items c.in-Ok.ensures.members c.in-Ok.ensures.within c.in-Some.over.path c.in-Some.over.length
    (subst (IsLeast (flat_map (notes_of c.args.p.now c.args.opts.now.length) c.in-Ok.field-0.items)) c.in-Some.is c.in-Ok.ensures.over) in
    as_reported c.args.p.now c.args.opts.now c.in-Some.over.path path c.in-Some.over.length n _ refl is long
