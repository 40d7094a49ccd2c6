-- What follows of the answers of all rules.
use Rattle.std.proofs.Common.{◌≡◌, ℕ, List, [], Result, Ok, Err, sym, ◌∙◌, ap, subst}
use Rattle.mm_ast.specs.declared.items.Crate.{Crate}
use Rattle.mm_load_plain.specs.declared.rule.Rule.{Rule}
use Rattle.mm_load_plain.specs.declared.rule.Rule.TheVariants.{UnknownName, DoubleName, WrongArity, BadMain, LongType}
use Rattle.mm_load_plain.specs.declared.load_error.LoadError as errors
use Rattle.mm_load_plain.specs.declared.load_error.LoadError.TheVariants.{Rule as Broken, NotBuilt, NoMemory}
use Rattle.mm_load_plain.specs.Asking.{Reports, reported, answered, Judges}
use Rattle.mm_load_plain.specs.Names.{Names}
use Rattle.mm_load_plain.specs.WrittenItem.{Defined}
use Rattle.mm_load_plain.specs.Rules.{fails, before, Kept, KeepsIn, IsFirstIn}

-- what is reported by a table and a list of functions is reported of what they are
pub asked_of : (rule : Rule) (lines : Names → List Defined → List ℕ) (r : Result (Unit {0}) errors.LoadError) (by is : Names) (functions written : List Defined) → by ≡ is → functions ≡ written → Reports rule (lines by functions) r → Reports rule (lines is written) r
asked_of rule lines r by is functions written same list t = subst (λ ns. Reports rule (lines ns written) r) same (subst (λ fs. Reports rule (lines by fs) r) list t)

module _ (krate : Crate) where
  faulty : (rule : Rule) (e : errors.LoadError) → Kept krate (before rule) → reported rule (fails rule krate) e → Judges krate (Err e)
  faulty rule (Broken which at) kept t = subst (λ r. IsFirstIn krate r at) (sym t.0) (record { earlier = kept; first = t.1 })
  faulty rule NotBuilt kept t = absurd t
  faulty rule NoMemory kept t = tt

  -- a rule fails, and those before it are kept
  pub judged_fault : (rule : Rule) (r : Result (Unit {0}) errors.LoadError) (e : errors.LoadError) → (x : errors.LoadError) × (r ≡ Err x) × (x ≡ e) → Kept krate (before rule) → Reports rule (fails rule krate) (Err e) → Judges krate r
  judged_fault rule r e p kept t = subst (Judges krate) (sym (p.1 ∙ ap Err p.2)) (faulty rule e kept t.answer)

  all_kept : Kept krate (before LongType) → fails LongType krate ≡ [] → KeepsIn krate
  all_kept kept last UnknownName = kept.0
  all_kept kept last DoubleName = kept.1.0
  all_kept kept last WrongArity = kept.1.1.0
  all_kept kept last BadMain = kept.1.1.1.0
  all_kept kept last LongType = last

  last_rule : (r : Result (Unit {0}) errors.LoadError) → Kept krate (before LongType) → answered LongType (fails LongType krate) r → Judges krate r
  last_rule (Ok u) kept t = all_kept kept t
  last_rule (Err e) kept t = faulty LongType e kept t

  pub judged_all : (r : Result (Unit {0}) errors.LoadError) → Kept krate (before LongType) → Reports LongType (fails LongType krate) r → Judges krate r
  judged_all r kept t = last_rule r kept t.answer
