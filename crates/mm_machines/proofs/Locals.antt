-- The locals of a function, made and freed one by one.
use Rattle.std.specs.Prelude.{◌≡◌, ℕ, suc, ◌+◌, ◌-◌, ◌<◌, None, replicate}
use Rattle.std.proofs.Common.{ap, arith}
use Rattle.mm_machines.specs.Memory.{Allocations, freed, with_allocation, with_locals, with_made}
use Rattle.mm_machines.specs.Values.{uninit}
use Rattle.mm_machines.specs.declared.allocation.BlockKind.TheVariants.{Local}

module _ (F V : Type 0) where
  pub one_unset : (n i : ℕ) (m : Allocations F V) → i < n → with_locals F V (replicate (n - i) (uninit F V)) m ≡ with_locals F V (replicate (n - (i + 1)) (uninit F V)) (with_made F V Local (uninit F V) m)
  one_unset n i m lt = let e : n - i ≡ suc (n - (i + 1)) = omega arith in ap (λ k. with_locals F V (replicate k (uninit F V)) m) e

  pub one_freed : (end block : ℕ) (m : Allocations F V) → block < end → freed F V block (end - block) m ≡ freed F V (block + 1) (end - (block + 1)) (with_allocation F V block None m)
  one_freed end block m lt = let e : end - block ≡ suc (end - (block + 1)) = omega arith in ap (λ k. freed F V block k m) e
