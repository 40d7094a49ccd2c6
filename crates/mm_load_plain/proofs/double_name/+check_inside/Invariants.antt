use Rattle.std.proofs.Common.{◌≡◌, [], map, take, drop}
use Rattle.mm_load_plain.specs.Rules.{along, member_of}
use Rattle.mm_definitions.specs.Trees.{items_in}
use Rattle.mm_load_plain.proofs.MemberLemmas.{doubled}
use Rattle.mm_load_plain.proofs.double_name.+check_inside.Given as goal

abbrev pub invariant-loop-inner : goal.invariant-loop-inner
invariant-loop-inner l =
    (map (λ k. k.now) l.seen.keys ≡ map (λ m. m.name.text) (take l.inner-index (map member_of (items_in l.item))))
    × (along doubled [] (map member_of (items_in l.item)) ≡ along doubled (take l.inner-index (map member_of (items_in l.item))) (drop l.inner-index (map member_of (items_in l.item))))
