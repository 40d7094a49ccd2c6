-- What code answers for a definition that may trap.
use Rattle.std.specs.Prelude.{◌≡◌, Result, Ok, Err, ⊤, nat_eq}
use Rattle.std.specs.HashMap.{get}
use Rattle.mm_machines.specs.declared.memory.Memory.{Memory}
use Rattle.mm_machines.specs.declared.trap.Halt.{Halt}
use Rattle.mm_machines.specs.declared.trap.Halt.TheVariants as halt
use Rattle.mm_machines.specs.declared.trap.Trap.{Trap}
use Rattle.mm_machines.specs.Memory.{Allocations}

-- the allocations of a memory
abbrev pub allocations_of : (F V : Type 0) → Memory F V → Allocations F V
allocations_of F V m = record { found = λ n. get nat_eq m.allocations n; next = m.next }

-- the answer is that of the definition, or memory ran out
abbrev pub Answers : {A : Type 0} → Result A Halt → Result A Trap → Type 0
Answers (Ok a) r = r ≡ Ok a
Answers (Err (halt.Trap t)) r = r ≡ Err t
Answers (Err halt.NoMemory) r = ⊤

-- the definition's trap, or what there is afterwards
abbrev pub Changes : {B : Type 0} → Result ⊤ Trap → B → Result B Trap → Type 0
Changes (Ok a) new r = r ≡ Ok new
Changes (Err t) new r = r ≡ Err t
