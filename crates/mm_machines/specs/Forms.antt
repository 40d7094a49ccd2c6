-- What each form does. Operands, rvalues, statements and ends are put together from these, in both machines: a machine
-- says where the form comes from, and which function is called.
use Rattle.std.specs.Prelude.{ℕ, ◌+◌, ◌-◌, Bool, true, false, List, [], ◌∷◌, ◌++◌, length, replicate, Result, Ok, Err, nat_eq, nat_lt, if◌then◌else◌}
use Rattle.mm_plain.specs.declared.program.Arm.{Arm}
use Rattle.mm_plain.specs.declared.program.Op.{Op}
use Rattle.mm_machines.specs.declared.frame.Caller.{Caller}
use Rattle.mm_machines.specs.declared.frame.Frame.{Frame}
use Rattle.mm_machines.specs.declared.frame.LocalRange.{LocalRange}
use Rattle.mm_machines.specs.declared.trap.Ended.{Ended}
use Rattle.mm_machines.specs.declared.trap.Ended.TheVariants as ended
use Rattle.mm_machines.specs.declared.trap.Trap.{Trap}
use Rattle.mm_machines.specs.declared.trap.Trap.TheVariants as trap
use Rattle.mm_machines.specs.declared.value.Address.{Address}
use Rattle.mm_machines.specs.declared.value.Value.{Value}
use Rattle.mm_machines.specs.Values.{then_do, checked, num, truth, uninit, number_of, choice_of, negated, applied, is_whole}
use Rattle.mm_machines.specs.Memory.{Allocations, read, written, with_locals, freed}

-- how many parameters and locals a function has. The locals are the result, the parameters and the others
pub record Shape : Type 0 where
  pub params : ℕ
  pub locals : ℕ

-- the label of the first arm with the number, or else the other
abbrev pub arm_for : ℕ → List Arm → ℕ → ℕ
arm_for n [] other = other
arm_for n (arm ∷ arms) other = if nat_eq n arm.number then arm.label else arm_for n arms other

module _ (F V : Type 0) where
  -- a run, between two steps
  pub record State : Type 0 where
    -- the function that runs
    pub top : Frame F
    -- those that wait, the latest first
    pub below : List (Caller F)
    pub memory : Allocations F V
    pub printed : List ℕ

  -- what a step resolves to: the run goes on, or it is over, and then this was printed
  pub data Turn : Type 0 where
    On : State → Turn
    Over : Ended → List ℕ → Turn

  -- finds a place, given the locals
  abbrev pub Find : Type 0
  Find = LocalRange → Allocations F V → Result Address Trap

  -- makes a value, which may take one out of memory
  abbrev pub Eval : Type 0
  Eval = LocalRange → Allocations F V → Result (Value F V × Allocations F V) Trap

  abbrev pub Act : Type 0
  Act = State → Turn

  -- ---- places

  abbrev pub local : ℕ → Find
  local k w m = checked (nat_lt k w.count) trap.Dangling (Ok (record { block = w.first + k; path = [] }))

  -- ---- operands

  abbrev pub number : ℕ → Eval
  number n w m = Ok (num F V n, m)

  abbrev pub boolean : Bool → Eval
  boolean b w m = Ok (truth F V b, m)

  -- the value at an address, where each of its cells has one
  abbrev pub whole_at : Address → Allocations F V → Result (Value F V) Trap
  whole_at a m = then_do (read F V a m) (λ v. checked (is_whole F V v) trap.Uninit (Ok v))

  abbrev pub copy : Find → Eval
  copy find w m = then_do (find w m) (λ a. then_do (whole_at a m) (λ v. Ok (v, m)))

  abbrev pub move : Find → Eval
  move find w m = then_do (find w m) (λ a. then_do (whole_at a m) (λ v. then_do (written F V a (uninit F V) m) (λ n. Ok (v, n))))

  -- operands from left to right
  abbrev pub all_of : List Eval → LocalRange → Allocations F V → Result (List (Value F V) × Allocations F V) Trap
  all_of [] w m = Ok ([], m)
  all_of (e ∷ es) w m = then_do (e w m) (λ v. then_do (all_of es w v.1) (λ vs. Ok (v.0 ∷ vs.0, vs.1)))

  -- ---- rvalues

  abbrev pub negation : Eval → Eval
  negation e w m = then_do (e w m) (λ v. then_do (negated F V v.0) (λ r. Ok (r, v.1)))

  abbrev pub binary : Op → Eval → Eval → Eval
  binary op d e w m = then_do (d w m) (λ x. then_do (e w x.1) (λ y. then_do (applied F V op x.0 y.0) (λ r. Ok (r, y.1))))

  -- ---- statements and ends

  -- goes on with a result, or ends the run by a trap
  abbrev pub or_trap : {A : Type 0} → Result A Trap → State → (A → Turn) → Turn
  or_trap (Ok a) s go = go a
  or_trap (Err t) s go = Over (ended.Trap t) s.printed

  -- the frame, to go on at the start of a block
  abbrev pub at_block : ℕ → Frame F → Frame F
  at_block label f = record f { block = label; index = 0 }

  -- the frame, to go on at the next index of the block
  abbrev pub at_next : Frame F → Frame F
  at_next f = record f { index = f.index + 1 }

  abbrev pub with_memory : Allocations F V → State → State
  with_memory m s = record s { memory = m }

  -- goes on at the next index, with this memory
  abbrev pub next : Allocations F V → State → State
  next m s = record s { top = at_next s.top; memory = m }

  -- goes on at the start of a block
  abbrev pub jumped : ℕ → State → State
  jumped label s = record s { top = at_block label s.top }

  -- makes a value, then finds a place, then writes the value into it
  abbrev pub assigned : Find → Eval → LocalRange → Allocations F V → Result (Allocations F V) Trap
  assigned find e w m = then_do (e w m) (λ v. then_do (find w v.1) (λ a. written F V a v.0 v.1))

  abbrev pub set : Find → Eval → Act
  set find e s = or_trap (assigned find e s.top.locals s.memory) s (λ m. On (next m s))

  -- makes a number
  abbrev pub number_from : Eval → LocalRange → Allocations F V → Result (ℕ × Allocations F V) Trap
  number_from e w m = then_do (e w m) (λ v. then_do (number_of F V v.0) (λ n. Ok (n, v.1)))

  abbrev pub print : Eval → Act
  print e s = or_trap (number_from e s.top.locals s.memory) s (λ n. On (record (next n.1 s) { printed = s.printed ++ n.0 ∷ [] }))

  abbrev pub goto : ℕ → Act
  goto label s = On (jumped label s)

  -- the run ends by a trap
  abbrev pub trapped : Trap → Act
  trapped t s = Over (ended.Trap t) s.printed

  abbrev pub unreachable : Act
  unreachable = trapped trap.Unreachable

  -- makes a value, and chooses by it
  abbrev pub choice_from : Eval → LocalRange → Allocations F V → Result (ℕ × Allocations F V) Trap
  choice_from e w m = then_do (e w m) (λ v. then_do (choice_of F V v.0) (λ n. Ok (n, v.1)))

  abbrev pub switch : Eval → List Arm → ℕ → Act
  switch e arms other s = or_trap (choice_from e s.top.locals s.memory) s (λ n. On (jumped (arm_for n.0 arms other) (with_memory n.1 s)))

  -- ---- calls

  -- the result has no value yet, the parameters have the operands, and the other locals have no value yet
  abbrev pub locals_for : Shape → List (Value F V) → List (Value F V)
  locals_for shape vs = uninit F V ∷ (vs ++ replicate (shape.locals - 1 - shape.params) (uninit F V))

  -- a function at its start, whose locals are made next
  abbrev pub started : F → ℕ → Allocations F V → Frame F
  started f count m = record { function = f; block = 0; index = 0; locals = record { first = m.next; count = count } }

  -- what a call hands over: the operands, and then where the result goes
  pub record EvaluatedCall : Type 0 where
    pub values : List (Value F V)
    pub dest : Address
    pub memory : Allocations F V

  abbrev pub evaluated_call : List Eval → Find → LocalRange → Allocations F V → Result EvaluatedCall Trap
  evaluated_call es find w m = then_do (all_of es w m) (λ vs. then_do (find w vs.1) (λ a. Ok (record { values = vs.0; dest = a; memory = vs.1 })))

  -- the function starts, and the one that runs waits for it, to go on at the label
  abbrev pub entered : F → List (Value F V) → ℕ → EvaluatedCall → State → State
  entered f locals label h s = record s {
    top = started f (length locals) h.memory;
    below = record { frame = at_block label s.top; dest = h.dest } ∷ s.below;
    memory = with_locals F V locals h.memory;
  }

  abbrev pub fitting : Bool → State → State → Turn
  fitting true new s = On new
  fitting false new s = Over (ended.Trap trap.WrongArity) s.printed

  -- the operands are made, then the place of the result is found, and then there are to be as many operands as parameters
  abbrev pub call : F → Shape → List Eval → Find → ℕ → Act
  call f shape es find label s =
      or_trap (evaluated_call es find s.top.locals s.memory) s (λ h.
      fitting (nat_eq (length h.values) shape.params) (entered f (locals_for shape h.values) label h s) s)

  -- the value of the result as it is is taken, the locals are freed, and the value is written where the caller wants it
  abbrev pub returned_result : LocalRange → Address → Allocations F V → Result (Allocations F V) Trap
  returned_result w dest m = then_do (local 0 w m) (λ a. then_do (read F V a m) (λ v. written F V dest v (freed F V w.first w.count m)))

  abbrev pub back_to : List (Caller F) → Act
  back_to [] s = Over ended.Returned s.printed
  back_to (c ∷ cs) s = or_trap (returned_result s.top.locals c.dest s.memory) s (λ m. On (record s { top = c.frame; below = cs; memory = m }))

  -- the latest of those that wait goes on. Where none waits, the run has returned
  abbrev pub return : Act
  return s = back_to s.below s
