-- One step of a run.
use Rattle.std.specs.Prelude.{◌≡◌, ℕ, suc, ◌+◌, ◌-◌, ◌<◌}
use Rattle.std.proofs.Common.{ap, arith}
use Rattle.mm_objects.specs.declared.target.Target.{Target}
use Rattle.mm_objects.specs.declared.target.VtableId.{VtableId}
use Rattle.mm_machines.specs.Forms.{State}
use Rattle.mm_machines.specs.Runs.{Code, after, run, step}

pub one_more : (code : Code Target VtableId) (n i : ℕ) (s : State Target VtableId) → i < n → run Target VtableId code (n - i) s ≡ after Target VtableId (run Target VtableId code (n - (i + 1))) (step Target VtableId code s)
one_more code n i s lt = let e : n - i ≡ suc (n - (i + 1)) = omega arith in ap (λ k. run Target VtableId code k s) e
