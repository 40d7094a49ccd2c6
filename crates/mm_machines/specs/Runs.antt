-- Runs: one step after another, and what is seen.
use Rattle.std.specs.Prelude.{ℕ, zero, suc, [], replicate, Option, None, Some}
use Rattle.mm_machines.specs.declared.trap.Ended.TheVariants as ended
use Rattle.mm_machines.specs.declared.trap.Obs.{Obs}
use Rattle.mm_machines.specs.Values.{uninit}
use Rattle.mm_machines.specs.Memory.{no_allocations, with_locals}
use Rattle.mm_machines.specs.Forms.{Shape, State, Turn, Turn.On, Turn.Over, Act, unreachable, started}

module _ (F V : Type 0) where
  -- what stands at each place of each function: by block, and by place in the block
  abbrev pub Code : Type 0
  Code = F → ℕ → ℕ → Act F V

  -- what stands at a place of a block: a statement, or behind the last one the end
  abbrev pub placed_at : {S : Type 0} → (S → Act F V) → Act F V → Option S → Act F V
  placed_at act end None = end
  placed_at act end (Some s) = act s

  -- what stands in a block, and a trap where there is no such block
  abbrev pub or_nowhere : {B : Type 0} → (B → Act F V) → Option B → Act F V
  or_nowhere act None = unreachable F V
  or_nowhere act (Some b) = act b

  -- does what stands where the run is
  abbrev pub step : Code → Act F V
  step code s = code s.top.function s.top.block s.top.index s

  abbrev pub after : (State F V → Obs) → Turn F V → Obs
  after go (On s) = go s
  after go (Over e printed) = record { printed = printed; ended = e }

  -- what is seen when the run is over or has made n more steps, whichever comes first. A step that traps is one
  abbrev pub run : Code → ℕ → State F V → Obs
  run code zero s = record { printed = s.printed; ended = ended.Running }
  run code (suc n) s = after (run code n) (step code s)

  -- before the first step: a function in which no local has a value
  abbrev pub first : F → Shape → State F V
  first main shape = record {
    top = started F V main shape.locals (no_allocations F V);
    below = [];
    memory = with_locals F V (replicate shape.locals (uninit F V)) (no_allocations F V);
    printed = [];
  }

  -- what is seen of a run of a function after n steps
  abbrev pub observed : Code → F → Shape → ℕ → Obs
  observed code main shape n = run code n (first main shape)
