-- Runs with other names: where the code at each index does the same, the same is seen.
use Rattle.std.specs.Prelude.{◌≡◌, ℕ, zero, suc, [], replicate}
use Rattle.std.proofs.Common.{◌∙◌, refl, ap}
use Rattle.mm_machines.specs.declared.trap.Obs.{Obs}
use Rattle.mm_machines.specs.Values.{uninit}
use Rattle.mm_machines.specs.Memory.{no_allocations, with_locals}
use Rattle.mm_machines.specs.Forms.{Shape, State, Turn, Turn.On, Turn.Over, started}
use Rattle.mm_machines.specs.Runs.{Code, step, after, run, first, observed}
use Rattle.mm_machines.proofs.Renaming.{Renaming}
use Rattle.mm_machines.proofs.MemoryLaws.{with_locals_law}
use Rattle.mm_machines.proofs.FormLaws.{SameAct, state_renamed, turn_renamed, unset_law}

module _ (F V G W : Type 0) (r : Renaming F V G W) where
  abbrev pub SameCode : Code F V → Code G W → Type 0
  SameCode c d = (f : F) (block index : ℕ) → SameAct F V G W r (c f block index) (d (r.function f) block index)

  after_law : (go : State F V → Obs) (go' : State G W → Obs) (t : Turn F V) → ((s : State F V) → go s ≡ go' (state_renamed F V G W r s)) → after F V go t ≡ after G W go' (turn_renamed F V G W r t)
  after_law go go' (On s) each = each s
  after_law go go' (Over e printed) each = refl

  pub same_run : (c : Code F V) (d : Code G W) → SameCode c d → (n : ℕ) (s : State F V) → run F V c n s ≡ run G W d n (state_renamed F V G W r s)
  same_run c d same zero s = refl
  same_run c d same (suc n) s = after_law _ _ (step F V c s) (same_run c d same n) ∙ ap (after G W (run G W d n)) (same s.top.function s.top.block s.top.index s)

  same_first : (f : F) (shape : Shape) → state_renamed F V G W r (first F V f shape) ≡ first G W (r.function f) shape
  same_first f shape =
      ap (λ m. record { top = started G W (r.function f) shape.locals (no_allocations G W); below = []; memory = m; printed = [] })
      (with_locals_law F V G W r (replicate shape.locals (uninit F V)) (no_allocations F V) ∙ ap (λ l. with_locals G W l (no_allocations G W)) (unset_law F V G W r shape.locals))

  pub same_observed : (c : Code F V) (d : Code G W) → SameCode c d → (f : F) (shape : Shape) (n : ℕ) → observed F V c f shape n ≡ observed G W d (r.function f) shape n
  same_observed c d same f shape n = same_run c d same n (first F V f shape) ∙ ap (run G W d n) (same_first f shape)
