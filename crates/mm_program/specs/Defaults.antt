-- What is chosen where nobody chooses.
use Rattle.std.specs.Prelude.{◌≡◌, true, false}
use Rattle.mm_program.specs.declared.opts.Opts.{Opts}

-- lazy collection with sharing, up to 16 units, items up to length 512, 20,000 items, one worker, a million steps
pub record AreDefaults (opts : Opts) : Type 0 where
  pub eager : opts.eager ≡ false
  pub share : opts.share ≡ true
  pub units : opts.units ≡ 16
  pub length : opts.length ≡ 512
  pub items : opts.items ≡ 20000
  pub workers : opts.workers ≡ 1
  pub steps : opts.steps ≡ 1000000
