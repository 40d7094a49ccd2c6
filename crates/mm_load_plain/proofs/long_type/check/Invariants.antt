use Rattle.std.proofs.Common.{◌≡◌, [], map, take}
use Rattle.std.specs.List.{flat_map}
use Rattle.mm_load_plain.specs.Rules.{long_in_function}
use Rattle.mm_load_plain.specs.Seen.{function_seen}
use Rattle.mm_load_plain.proofs.long_type.check.Given as goal

abbrev pub invariant-loop-function : goal.invariant-loop-function
invariant-loop-function l = flat_map (λ d. long_in_function d.function) (map function_seen (take l.function-index l.functions)) ≡ []
