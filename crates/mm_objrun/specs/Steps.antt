-- What the code of a run answers, by what the image machine does.
use Rattle.std.specs.Prelude.{◌≡◌, ℕ, List, ◌∷◌, ◌++◌, map, replicate, reverse, Result, Ok, Err, Option, None, Some, ⊤}
use Rattle.mm_machines.specs.declared.frame.Caller.{Caller}
use Rattle.mm_objects.specs.declared.target.Target.{Target}
use Rattle.mm_objects.specs.declared.target.VtableId.{VtableId}
use Rattle.mm_machines.specs.declared.trap.Ended.{Ended}
use Rattle.mm_machines.specs.declared.trap.Ended.TheVariants as ended
use Rattle.mm_machines.specs.declared.trap.Halt.{Halt}
use Rattle.mm_machines.specs.declared.trap.Halt.TheVariants as halt
use Rattle.mm_machines.specs.declared.trap.Trap.{Trap}
use Rattle.mm_machines.specs.declared.value.Address.{Address}
use Rattle.mm_machines.specs.declared.value.Value.{Value}
use Rattle.mm_machines.specs.Answers.{allocations_of}
use Rattle.mm_machines.specs.Forms.{EvaluatedCall, State, Turn, Turn.On, Turn.Over}
use Rattle.mm_machines.specs.Memory.{Allocations, whole_allocation}
use Rattle.mm_machines.specs.Values.{uninit}
use Rattle.mm_objrun.specs.declared.machine.CallArgs.{CallArgs}
use Rattle.mm_objrun.specs.declared.machine.Machine.{Machine}
use Rattle.mm_objrun.specs.declared.machine.SuspendedFrame.{SuspendedFrame}

-- the number is that of the allocation that is found, or memory ran out
abbrev pub Finds : Result ℕ Halt → Result Address Trap → Type 0
Finds (Ok n) r = r ≡ Ok (whole_allocation n)
Finds (Err (halt.Trap t)) r = r ≡ Err t
Finds (Err halt.NoMemory) r = ⊤

-- what is made, with the memory after it, or memory ran out
abbrev pub MakesSeen : {A B : Type 0} → (A → B) → Result A Halt → Allocations Target VtableId → Result (B × Allocations Target VtableId) Trap → Type 0
MakesSeen see (Ok a) m r = r ≡ Ok (see a, m)
MakesSeen see (Err (halt.Trap t)) m r = r ≡ Err t
MakesSeen see (Err halt.NoMemory) m r = ⊤

abbrev pub Makes : {A : Type 0} → Result A Halt → Allocations Target VtableId → Result (A × Allocations Target VtableId) Trap → Type 0
Makes = MakesSeen (λ a. a)

-- the memory after a write, or memory ran out
abbrev pub Writes : {A : Type 0} → Result A Halt → Allocations Target VtableId → Result (Allocations Target VtableId) Trap → Type 0
Writes (Ok a) m r = r ≡ Ok m
Writes (Err (halt.Trap t)) m r = r ≡ Err t
Writes (Err halt.NoMemory) m r = ⊤

-- a suspended frame, as the machine has it
abbrev pub caller_of : SuspendedFrame → Caller Target
caller_of w = record { frame = w.frame; dest = whole_allocation w.dest }

-- the arguments of a call, as the machine has them
abbrev pub evaluated_call_of : CallArgs → Allocations Target VtableId → EvaluatedCall Target VtableId
evaluated_call_of h m = record { values = h.values.items; dest = whole_allocation h.dest; memory = m }

abbrev pub EvaluatesCall : Result CallArgs Halt → Allocations Target VtableId → Result (EvaluatedCall Target VtableId) Trap → Type 0
EvaluatesCall (Ok h) m r = r ≡ Ok (evaluated_call_of h m)
EvaluatesCall (Err (halt.Trap t)) m r = r ≡ Err t
EvaluatesCall (Err halt.NoMemory) m r = ⊤

-- the state of the machine. The latest that is suspended stands last in the code and first in the definition
abbrev pub state_of : Machine → State Target VtableId
state_of m = record {
  top = m.top;
  below = map caller_of (reverse m.below.items);
  memory = allocations_of Target VtableId m.memory;
  printed = m.printed.items;
}

-- a step was made, and the run goes on or is over
abbrev pub Continues : Option Ended → State Target VtableId → Turn Target VtableId → Type 0
Continues None new turn = turn ≡ On new
Continues (Some e) new turn = turn ≡ Over e new.printed

-- a step was made, or it is a trap after which the run is over, or memory ran out
abbrev pub Steps : Result (Option Ended) Halt → State Target VtableId → Turn Target VtableId → Type 0
Steps (Ok over) new turn = Continues over new turn
Steps (Err (halt.Trap t)) new turn = turn ≡ Over (ended.Trap t) new.printed
Steps (Err halt.NoMemory) new turn = ⊤

-- the locals of a function: the result without a value, the arguments, and so many others without a value
abbrev pub set_up : List (Value Target VtableId) → ℕ → List (Value Target VtableId)
set_up vs more = uninit Target VtableId ∷ (vs ++ replicate more (uninit Target VtableId))
