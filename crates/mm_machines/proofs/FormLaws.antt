-- Each form with other names: in a renamed state it does the same, renamed. One law a form.
use Rattle.std.specs.Prelude.{◌≡◌, ℕ, zero, suc, ◌-◌, Bool, true, false, List, [], ◌∷◌, ◌++◌, map, length, replicate, Result, Ok, Err, nat_eq}
use Rattle.std.proofs.Common.{◌∙◌, refl, sym, ap}
use Rattle.std.proofs.lemmas.List.{map-append, length-map}
use Rattle.mm_plain.specs.declared.program.Arm.{Arm}
use Rattle.mm_plain.specs.declared.program.Op.{Op}
use Rattle.mm_machines.specs.declared.frame.Caller.{Caller}
use Rattle.mm_machines.specs.declared.frame.Frame.{Frame}
use Rattle.mm_machines.specs.declared.frame.LocalRange.{LocalRange}
use Rattle.mm_machines.specs.declared.trap.Trap.{Trap}
use Rattle.mm_machines.specs.declared.trap.Trap.TheVariants as trap
use Rattle.mm_machines.specs.declared.value.Address.{Address}
use Rattle.mm_machines.specs.declared.value.Value.{Value}
use Rattle.mm_machines.specs.Values.{checked, uninit, is_whole}
use Rattle.mm_machines.specs.Memory.{Allocations, written, freed}
use Rattle.mm_machines.specs.Forms.{Shape, State, Turn, Turn.On, Turn.Over, Find, Eval, Act, local, number, boolean, whole_at, copy, move, all_of, negation, binary, or_trap, at_block, set, print, goto, unreachable, switch, locals_for, started, EvaluatedCall, evaluated_call, entered, fitting, call, returned_result, back_to, return}
use Rattle.mm_machines.proofs.Renaming.{Renaming, carry, bind_law, bind_plain, checked_law, renamed, num_law, truth_law, uninit_law, whole_law, number_of_law, choice_of_law, negated_law, applied_law}
use Rattle.mm_machines.proofs.MemoryLaws.{memory_renamed, with_locals_law, freed_law, read_law, written_law}

module _ (F V G W : Type 0) (r : Renaming F V G W) where
  abbrev value : Value F V → Value G W
  value = renamed F V G W r

  abbrev memory : Allocations F V → Allocations G W
  memory = memory_renamed F V G W r

  abbrev pub frame_renamed : Frame F → Frame G
  frame_renamed f = record { function = r.function f.function; block = f.block; index = f.index; locals = f.locals }

  abbrev pub caller_renamed : Caller F → Caller G
  caller_renamed c = record { frame = frame_renamed c.frame; dest = c.dest }

  abbrev pub state_renamed : State F V → State G W
  state_renamed s = record { top = frame_renamed s.top; below = map caller_renamed s.below; memory = memory s.memory; printed = s.printed }

  abbrev pub turn_renamed : Turn F V → Turn G W
  turn_renamed (On s) = On (state_renamed s)
  turn_renamed (Over e printed) = Over e printed

  abbrev made_renamed : Value F V × Allocations F V → Value G W × Allocations G W
  made_renamed p = (value p.0, memory p.1)

  abbrev all_renamed : List (Value F V) × Allocations F V → List (Value G W) × Allocations G W
  all_renamed p = (map value p.0, memory p.1)

  abbrev counted_renamed : ℕ × Allocations F V → ℕ × Allocations G W
  counted_renamed p = (p.0, memory p.1)

  abbrev handed_renamed : EvaluatedCall F V → EvaluatedCall G W
  handed_renamed h = record { values = map value h.values; dest = h.dest; memory = memory h.memory }

  -- the same place is found
  abbrev pub SameFind : Find F V → Find G W → Type 0
  SameFind find find' = (w : LocalRange) (m : Allocations F V) → find w m ≡ find' w (memory m)

  -- the same value is made
  abbrev pub SameEval : Eval F V → Eval G W → Type 0
  SameEval e e' = (w : LocalRange) (m : Allocations F V) → carry made_renamed (e w m) ≡ e' w (memory m)

  abbrev pub SameEvals : List (Eval F V) → List (Eval G W) → Type 0
  SameEvals [] [] = Unit {0}
  SameEvals (e ∷ es) (e' ∷ es') = SameEval e e' × SameEvals es es'
  SameEvals _ _ = ⊥

  -- the same is done
  abbrev pub SameAct : Act F V → Act G W → Type 0
  SameAct a b = (s : State F V) → turn_renamed (a s) ≡ b (state_renamed s)

  -- ---- places

  pub local_law : (k : ℕ) → SameFind (local F V k) (local G W k)
  local_law k w m = refl

  -- ---- operands

  pub number_law : (n : ℕ) → SameEval (number F V n) (number G W n)
  number_law n w m = ap (λ v. Ok (v, memory m)) (num_law F V G W r n)

  pub boolean_law : (b : Bool) → SameEval (boolean F V b) (boolean G W b)
  boolean_law b w m = ap (λ v. Ok (v, memory m)) (truth_law F V G W r b)

  whole_at_law : (a : Address) (m : Allocations F V) → carry value (whole_at F V a m) ≡ whole_at G W a (memory m)
  whole_at_law a m =
      bind_law value value _ _ _ _ (read_law F V G W r a m) (λ v.
      checked_law value (is_whole F V v) trap.Uninit (Ok v) ∙ ap (λ b. checked b trap.Uninit (Ok (value v))) (sym (whole_law F V G W r v)))

  pub copy_law : (find : Find F V) (find' : Find G W) → SameFind find find' → SameEval (copy F V find) (copy G W find')
  copy_law find find' same w m = bind_plain made_renamed _ _ _ _ (same w m) (λ a. bind_law value made_renamed _ _ _ _ (whole_at_law a m) (λ v. refl))

  pub move_law : (find : Find F V) (find' : Find G W) → SameFind find find' → SameEval (move F V find) (move G W find')
  move_law find find' same w m =
      bind_plain made_renamed _ _ _ _ (same w m) (λ a.
      bind_law value made_renamed _ _ _ _ (whole_at_law a m) (λ v.
      bind_law memory made_renamed _ _ _ _ (written_law F V G W r a (uninit F V) m ∙ ap (λ u. written G W a u (memory m)) (uninit_law F V G W r)) (λ n. refl)))

  pub all_of_law : (es : List (Eval F V)) (es' : List (Eval G W)) → SameEvals es es' → (w : LocalRange) (m : Allocations F V) → carry all_renamed (all_of F V es w m) ≡ all_of G W es' w (memory m)
  all_of_law [] [] same w m = refl
  all_of_law (e ∷ es) (e' ∷ es') same w m =
      bind_law made_renamed all_renamed _ _ _ _ (same.0 w m) (λ v. bind_law all_renamed all_renamed _ _ _ _ (all_of_law es es' same.1 w v.1) (λ vs. refl))
  all_of_law [] (e' ∷ es') same w m = absurd same
  all_of_law (e ∷ es) [] same w m = absurd same

  -- ---- rvalues

  pub negation_law : (e : Eval F V) (e' : Eval G W) → SameEval e e' → SameEval (negation F V e) (negation G W e')
  negation_law e e' same w m = bind_law made_renamed made_renamed _ _ _ _ (same w m) (λ v. bind_law value made_renamed _ _ _ _ (negated_law F V G W r v.0) (λ n. refl))

  pub binary_law : (op : Op) (d e : Eval F V) (d' e' : Eval G W) → SameEval d d' → SameEval e e' → SameEval (binary F V op d e) (binary G W op d' e')
  binary_law op d e d' e' first second w m =
      bind_law made_renamed made_renamed _ _ _ _ (first w m) (λ x.
      bind_law made_renamed made_renamed _ _ _ _ (second w x.1) (λ y.
      bind_law value made_renamed _ _ _ _ (applied_law F V G W r op x.0 y.0) (λ n. refl)))

  -- ---- statements and ends

  pub or_trap_law : {A C : Type 0} (f : A → C) (q : Result A Trap) (q' : Result C Trap) (s : State F V) (go : A → Turn F V) (go' : C → Turn G W) → carry f q ≡ q' → ((a : A) → turn_renamed (go a) ≡ go' (f a)) → turn_renamed (or_trap F V q s go) ≡ or_trap G W q' (state_renamed s) go'
  or_trap_law f (Ok a) q' s go go' e each = each a ∙ ap (λ x. or_trap G W x (state_renamed s) go') e
  or_trap_law f (Err t) q' s go go' e each = ap (λ x. or_trap G W x (state_renamed s) go') e

  pub set_law : (find : Find F V) (find' : Find G W) (e : Eval F V) (e' : Eval G W) → SameFind find find' → SameEval e e' → SameAct (set F V find e) (set G W find' e')
  set_law find find' e e' same_find same s =
      or_trap_law memory _ _ s _ _
      (bind_law made_renamed memory _ _ _ _ (same s.top.locals s.memory) (λ v.
      bind_plain memory _ _ _ _ (same_find s.top.locals v.1) (λ a. written_law F V G W r a v.0 v.1)))
      (λ m. refl)

  pub print_law : (e : Eval F V) (e' : Eval G W) → SameEval e e' → SameAct (print F V e) (print G W e')
  print_law e e' same s =
      or_trap_law counted_renamed _ _ s _ _
      (bind_law made_renamed counted_renamed _ _ _ _ (same s.top.locals s.memory) (λ v.
      bind_plain counted_renamed _ _ _ _ (number_of_law F V G W r v.0) (λ n. refl)))
      (λ n. refl)

  pub goto_law : (label : ℕ) → SameAct (goto F V label) (goto G W label)
  goto_law label s = refl

  pub unreachable_law : SameAct (unreachable F V) (unreachable G W)
  unreachable_law s = refl

  pub switch_law : (e : Eval F V) (e' : Eval G W) (arms : List Arm) (other : ℕ) → SameEval e e' → SameAct (switch F V e arms other) (switch G W e' arms other)
  switch_law e e' arms other same s =
      or_trap_law counted_renamed _ _ s _ _
      (bind_law made_renamed counted_renamed _ _ _ _ (same s.top.locals s.memory) (λ v.
      bind_plain counted_renamed _ _ _ _ (choice_of_law F V G W r v.0) (λ n. refl)))
      (λ n. refl)

  -- ---- calls

  map_replicate : (n : ℕ) → map value (replicate n (uninit F V)) ≡ replicate n (uninit G W)
  map_replicate zero = refl
  map_replicate (suc n) = λ i. uninit_law F V G W r i ∷ map_replicate n i

  pub unset_law : (n : ℕ) → map value (replicate n (uninit F V)) ≡ replicate n (uninit G W)
  unset_law = map_replicate

  locals_for_law : (shape : Shape) (vs : List (Value F V)) → map value (locals_for F V shape vs) ≡ locals_for G W shape (map value vs)
  locals_for_law shape vs =
      let n : ℕ = shape.locals - 1 - shape.params in
      let rest : map value (vs ++ replicate n (uninit F V)) ≡ map value vs ++ replicate n (uninit G W) =
      map-append value vs (replicate n (uninit F V)) ∙ ap (λ l. map value vs ++ l) (map_replicate n) in
      λ i. uninit_law F V G W r i ∷ rest i

  pub handed_law : (es : List (Eval F V)) (es' : List (Eval G W)) (find : Find F V) (find' : Find G W) → SameEvals es es' → SameFind find find' → (w : LocalRange) (m : Allocations F V) → carry handed_renamed (evaluated_call F V es find w m) ≡ evaluated_call G W es' find' w (memory m)
  handed_law es es' find find' same same_find w m =
      bind_law all_renamed handed_renamed _ _ _ _ (all_of_law es es' same w m) (λ vs. bind_plain handed_renamed _ _ _ _ (same_find w vs.1) (λ a. refl))

  fitting_law : (b : Bool) (new s : State F V) → turn_renamed (fitting F V b new s) ≡ fitting G W b (state_renamed new) (state_renamed s)
  fitting_law true new s = refl
  fitting_law false new s = refl

  entered_law : (f : F) (locals : List (Value F V)) (label : ℕ) (h : EvaluatedCall F V) (s : State F V) → state_renamed (entered F V f locals label h s) ≡ entered G W (r.function f) (map value locals) label (handed_renamed h) (state_renamed s)
  entered_law f locals label h s =
      let many : length locals ≡ length (map value locals) = sym (length-map locals value) in
      λ i. record {
        top = started G W (r.function f) (many i) (memory h.memory);
        below = record { frame = at_block G W label (frame_renamed s.top); dest = h.dest } ∷ map caller_renamed s.below;
        memory = with_locals_law F V G W r locals h.memory i;
        printed = s.printed;
      }

  pub call_law : (f : F) (shape : Shape) (es : List (Eval F V)) (es' : List (Eval G W)) (find : Find F V) (find' : Find G W) (label : ℕ) → SameEvals es es' → SameFind find find' → SameAct (call F V f shape es find label) (call G W (r.function f) shape es' find' label)
  call_law f shape es es' find find' label same same_find s =
      or_trap_law handed_renamed _ _ s _ _ (handed_law es es' find find' same same_find s.top.locals s.memory) (λ h.
      let fits : Bool = nat_eq (length h.values) shape.params in
      let new : State F V = entered F V f (locals_for F V shape h.values) label h s in
      fitting_law fits new s
      ∙ ap (λ n. fitting G W fits n (state_renamed s)) (entered_law f (locals_for F V shape h.values) label h s ∙ ap (λ l. entered G W (r.function f) l label (handed_renamed h) (state_renamed s)) (locals_for_law shape h.values))
      ∙ ap (λ n. fitting G W (nat_eq n shape.params) (entered G W (r.function f) (locals_for G W shape (map value h.values)) label (handed_renamed h) (state_renamed s)) (state_renamed s)) (sym (length-map h.values value)))

  returned_result_law : (w : LocalRange) (dest : Address) (m : Allocations F V) → carry memory (returned_result F V w dest m) ≡ returned_result G W w dest (memory m)
  returned_result_law w dest m =
      bind_plain memory _ _ _ _ (local_law 0 w m) (λ a.
      bind_law value memory _ _ _ _ (read_law F V G W r a m) (λ v.
      written_law F V G W r dest v (freed F V w.first w.count m) ∙ ap (written G W dest (value v)) (freed_law F V G W r w.first w.count m)))

  back_to_law : (cs : List (Caller F)) (s : State F V) → turn_renamed (back_to F V cs s) ≡ back_to G W (map caller_renamed cs) (state_renamed s)
  back_to_law [] s = refl
  back_to_law (c ∷ cs) s = or_trap_law memory _ _ s _ _ (returned_result_law s.top.locals c.dest s.memory) (λ m. refl)

  pub return_law : SameAct (return F V) (return G W)
  return_law s = back_to_law s.below s
