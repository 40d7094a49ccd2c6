-- The locals of a function, made in three turns.
use Rattle.std.specs.Prelude.{◌≡◌, ℕ, List, [], ◌∷◌, ◌++◌, replicate}
use Rattle.std.proofs.Common.{refl}
use Rattle.mm_machines.specs.declared.allocation.BlockKind.TheVariants.{Local}
use Rattle.mm_objects.specs.declared.target.Target.{Target}
use Rattle.mm_objects.specs.declared.target.VtableId.{VtableId}
use Rattle.mm_machines.specs.declared.value.Value.{Value}
use Rattle.mm_machines.specs.Memory.{Allocations, with_locals, with_made}
use Rattle.mm_machines.specs.Values.{uninit}
use Rattle.mm_objrun.specs.Steps.{set_up}

in_turns : (vs ws : List (Value Target VtableId)) (m : Allocations Target VtableId) → with_locals Target VtableId (vs ++ ws) m ≡ with_locals Target VtableId ws (with_locals Target VtableId vs m)
in_turns [] ws m = refl
in_turns (v ∷ vs) ws m = in_turns vs ws (with_made Target VtableId Local v m)

pub set_up_law : (vs : List (Value Target VtableId)) (more : ℕ) (m : Allocations Target VtableId) → with_locals Target VtableId (set_up vs more) m ≡ with_locals Target VtableId (replicate more (uninit Target VtableId)) (with_locals Target VtableId vs (with_made Target VtableId Local (uninit Target VtableId) m))
set_up_law vs more m = in_turns vs (replicate more (uninit Target VtableId)) (with_made Target VtableId Local (uninit Target VtableId) m)
