use Rattle.std.proofs.Common.{◌≡◌, [], map, take}
use Rattle.std.specs.List.{flat_map}
use Rattle.mm_load_plain.specs.Names.{look_up}
use Rattle.mm_load_plain.specs.Rules.{misfits_in_function}
use Rattle.mm_load_plain.specs.Seen.{function_seen}
use Rattle.mm_load_plain.proofs.wrong_arity.check.Given as goal

abbrev pub invariant-loop-function : goal.invariant-loop-function
invariant-loop-function l = flat_map (λ d. misfits_in_function (look_up l.paths) (map function_seen l.functions) d.function) (map function_seen (take l.function-index l.functions)) ≡ []
