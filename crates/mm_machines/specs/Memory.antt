-- Memory: allocations, each under a number of its own. A number is never used again, also when its allocation is freed.
use Rattle.std.specs.Prelude.{ℕ, zero, suc, ◌+◌, cond, List, [], ◌∷◌, Result, Ok, Option, None, Some, nat_eq}
use Rattle.mm_machines.specs.declared.trap.Trap.{Trap}
use Rattle.mm_machines.specs.declared.trap.Trap.TheVariants as trap
use Rattle.mm_machines.specs.declared.value.Address.{Address}
use Rattle.mm_machines.specs.declared.allocation.Allocation.{Allocation}
use Rattle.mm_machines.specs.declared.allocation.BlockKind.{BlockKind}
use Rattle.mm_machines.specs.declared.allocation.BlockKind.TheVariants.{Local}
use Rattle.mm_machines.specs.declared.value.Value.{Value}
use Rattle.mm_machines.specs.Values.{then_do, checked, found_or, fits, walk, replaced}

module _ (F V : Type 0) where
  pub record Allocations : Type 0 where
    -- the allocation with a number, where it was made and not freed
    pub found : ℕ → Option (Allocation F V)
    -- the number of the next allocation that is made
    pub next : ℕ

  -- before any allocation was made
  abbrev pub no_allocations : Allocations
  no_allocations = record { found = λ b. None; next = 0 }

  -- the memory with this under a number
  abbrev pub with_allocation : ℕ → Option (Allocation F V) → Allocations → Allocations
  with_allocation n o m = record m { found = λ b. cond (nat_eq b n) o (m.found b) }

  -- an allocation is made for a value
  abbrev pub with_made : BlockKind → Value F V → Allocations → Allocations
  with_made kind v m = record { found = (with_allocation m.next (Some (record { kind = kind; value = v })) m).found; next = m.next + 1 }

  -- a local is made for each of the values, in order
  abbrev pub with_locals : List (Value F V) → Allocations → Allocations
  with_locals [] m = m
  with_locals (v ∷ vs) m = with_locals vs (with_made Local v m)

  -- so many allocations are freed, from a number on
  abbrev pub freed : ℕ → ℕ → Allocations → Allocations
  freed first zero m = m
  freed first (suc n) m = freed (first + 1) n (with_allocation first None m)

  -- the value at an address
  abbrev pub read : Address → Allocations → Result (Value F V) Trap
  read a m = then_do (found_or trap.Dangling (m.found a.block)) (λ block. walk F V a.path block.value)

  -- the memory with a value instead of what is at an address. An allocation takes no value that is too big for it
  abbrev pub written : Address → Value F V → Allocations → Result Allocations Trap
  written a v m =
      then_do (found_or trap.Dangling (m.found a.block)) (λ block.
      then_do (replaced F V v a.path block.value) (λ w.
      checked (fits F V w) trap.TooBig (Ok (with_allocation a.block (Some (record block { value = w })) m))))

-- an allocation as a whole, as an address
abbrev pub whole_allocation : ℕ → Address
whole_allocation n = record { block = n; path = [] }
