use Rattle.std.proofs.Common.{◌≡◌, [], map, take}
use Rattle.std.specs.List.{flat_map}
use Rattle.mm_load_plain.specs.Names.{look_up}
use Rattle.mm_load_plain.specs.Rules.{unknown_in_function}
use Rattle.mm_load_plain.specs.Seen.{function_seen}
use Rattle.mm_load_plain.proofs.unknown_name.check.Given as goal

abbrev pub invariant-loop-function : goal.invariant-loop-function
invariant-loop-function l = flat_map (λ d. unknown_in_function (look_up l.paths) d.function) (map function_seen (take l.function-index l.functions)) ≡ []
