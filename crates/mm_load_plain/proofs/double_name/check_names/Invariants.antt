use Rattle.std.proofs.Common.{◌≡◌, [], map, take, drop}
use Rattle.mm_load_plain.specs.Rules.{along, again}
use Rattle.mm_load_plain.proofs.double_name.check_names.Given as goal

abbrev pub invariant-loop-name : goal.invariant-loop-name
invariant-loop-name l = (map (λ k. k.now) l.seen.keys ≡ map (λ n. n.text) (take l.name-index l.names)) × (along (λ before name. again (map (λ n. n.text) before) name.text name.line) [] l.names ≡ along (λ before name. again (map (λ n. n.text) before) name.text name.line) (take l.name-index l.names) (drop l.name-index l.names))
