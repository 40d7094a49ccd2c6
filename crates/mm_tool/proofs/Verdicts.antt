-- What is reported of a fault of collection is the verdict on the program.
use Rattle.std.proofs.Common.{◌≡◌, ℕ, List, ◌++◌, Result, Ok, Err, IfOk, inl, inr, ◌∙◌, ap, codes}
use Rattle.std.specs.Prelude.{decimal}
use Rattle.mm_collect.specs.declared.fault.CollectFault.{CollectFault}
use Rattle.mm_collect.specs.declared.fault.CollectFault.TheVariants as fault
use Rattle.mm_plain.specs.declared.program.Opts.{Opts}
use Rattle.mm_plain.specs.declared.program.Program.{Program}
use Rattle.mm_plain.specs.Verdict.{IsTooMany, IsTooLong}
use Rattle.mm_tool.specs.declared.answer.Product.{Product}
use Rattle.mm_tool.specs.Report.{Tells, IsVerdict, line}

module _ (p : Program) (opts : Opts) {A : Type 0} (r : Result A CollectFault) where
  abbrev pub ManyOnly : Type 0
  ManyOnly = (n : ℕ) → r ≡ Err (fault.TooMany n) → (n ≡ opts.items) × IsTooMany p opts

  abbrev pub LongOnly : Type 0
  LongOnly = (path : List ℕ) (n : ℕ) → r ≡ Err (fault.TypeLength path n) → IsTooLong p opts path n

  pub reported : (product : Product) (f : CollectFault) → r ≡ Err f → ManyOnly → LongOnly → (status : ℕ) (output : List ℕ) → Tells p f status output → IsVerdict product p opts status output
  reported product (fault.TooMany n) is many long status output tells =
      let m = many n is in
      inr (inl (record { status_is = tells.0; many = m.1; output_is = tells.1 ∙ ap (λ k. line (codes "error: more than " ++ decimal k ++ codes " items in crate " ++ p.krate)) m.0 }))
  reported product (fault.TypeLength path n) is many long status output tells = inr (inr (record { status_is = tells.0; path = path; n = n; long = long path n is; output_is = tells.1 }))
  reported product (fault.NoImpl text) is many long status output tells = absurd tells
  reported product fault.NoMemory is many long status output tells = absurd tells

pub IfOk-then : {A E : Type 0} (r : Result A E) (P Q : A → Type 0) → IfOk r P → ((a : A) → P a → Q a) → IfOk r Q
IfOk-then (Ok a) P Q ok each = each a ok
IfOk-then (Err e) P Q ok each = tt

pub IfOk-both : {A E : Type 0} (r : Result A E) (P Q R : A → Type 0) → IfOk r P → IfOk r Q → ((a : A) → P a → Q a → R a) → IfOk r R
IfOk-both (Ok a) P Q R one other each = each a one other
IfOk-both (Err e) P Q R one other each = tt
