use Rattle.std.proofs.Common.{◌≡◌, [], map, take, drop}
use Rattle.mm_load_plain.specs.Rules.{along, member_of}
use Rattle.mm_load_plain.proofs.MemberLemmas.{doubled}
use Rattle.mm_load_plain.proofs.double_name.check.Given as goal

abbrev pub invariant-loop-item : goal.invariant-loop-item
invariant-loop-item l =
    (map (λ k. k.now) l.seen.keys ≡ map (λ m. m.name.text) (take l.item-index (map member_of l.items)))
    × (along doubled [] (map member_of l.items) ≡ along doubled (take l.item-index (map member_of l.items)) (drop l.item-index (map member_of l.items)))
