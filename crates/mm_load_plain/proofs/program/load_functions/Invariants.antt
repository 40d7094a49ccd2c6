use Rattle.std.proofs.Common.{◌≡◌, map, take}
use Rattle.mm_load_plain.specs.Names.{look_up}
use Rattle.mm_load_plain.specs.Meaning.{function_of}
use Rattle.mm_load_plain.specs.Seen.{function_seen}
use Rattle.mm_load_plain.proofs.program.load_functions.Given as goal

abbrev pub invariant-loop-function : goal.invariant-loop-function
invariant-loop-function l = l.loaded ≡ map (function_of (look_up l.paths)) (map function_seen (take l.function-index l.functions))
