use Rattle.std.proofs.Common.{sym, subst}
use Rattle.mm_load_plain.specs.Rules.{IsFirstIn}
use Rattle.mm_load_plain.proofs.load.Goals as goal

pub returns-clause-fault : goal.returns-clause-fault
returns-clause-fault c rule line is = record {
  built = sym c.in-Some.ensures.built;
  fault = subst (λ krate. IsFirstIn krate rule line) c.in-Some.ensures.krate (c.load_crate.ensures.fault rule line is);
}
