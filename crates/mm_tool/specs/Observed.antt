-- How what is seen of a run is reported: a line for each printed number, and one for how the run stands.
use Rattle.std.specs.Prelude.{ℕ, List, [], ◌∷◌, ◌++◌, flat_map, codes, decimal}
use Rattle.mm_machines.specs.declared.trap.Ended.{Ended}
use Rattle.mm_machines.specs.declared.trap.Ended.TheVariants.{Returned, Trap as Trapped, Running}
use Rattle.mm_machines.specs.declared.trap.Obs.{Obs}
use Rattle.mm_machines.specs.declared.trap.Trap.{Trap}
use Rattle.mm_machines.specs.declared.trap.Trap.TheVariants.{Overflow, DivZero, Uninit, Dangling, WrongKind, WrongVariant, WrongArity, Unreachable, TooBig}

abbrev pub trap_text : Trap → List ℕ
trap_text Overflow = codes "Overflow"
trap_text DivZero = codes "DivZero"
trap_text Uninit = codes "Uninit"
trap_text Dangling = codes "Dangling"
trap_text WrongKind = codes "WrongKind"
trap_text WrongVariant = codes "WrongVariant"
trap_text WrongArity = codes "WrongArity"
trap_text Unreachable = codes "Unreachable"
trap_text TooBig = codes "TooBig"

abbrev pub ended_text : Ended → List ℕ
ended_text Returned = codes "returned"
ended_text (Trapped t) = codes "trap " ++ trap_text t
ended_text Running = codes "still running"

-- what is seen, each line ended by LF
abbrev pub obs_text : Obs → List ℕ
obs_text seen = flat_map (λ n. decimal n ++ 10 ∷ []) seen.printed ++ ended_text seen.ended ++ 10 ∷ []

abbrev pub obs_status : Ended → ℕ
obs_status Returned = 0
obs_status (Trapped t) = 10
obs_status Running = 11
