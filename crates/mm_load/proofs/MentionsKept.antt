-- What a mention tells that breaks no rule.
use Rattle.std.proofs.Common.{◌≡◌, ℕ, ◌≤◌, Bool, true, false, not, nat_eq, List, [], ◌∷◌, ◌++◌, Some, refl, sym, ap, ◌∙◌, arith}
use Rattle.std.specs.declared.option.Option.{Option}
use Rattle.std.proofs.lemmas.Bool.{not-false, eqb-false}
use Rattle.mm_definitions.specs.declared.named.Named.{Named}
use Rattle.mm_mentions.specs.declared.mention.What.TheVariants as whats
use Rattle.mm_resolve.specs.Scopes.{Scope}
use Rattle.mm_rules.specs.declared.fault.CrateRule.{CrateRule}
use Rattle.mm_rules.specs.declared.fault.CrateRule.TheVariants.{UnknownName, WrongArity}
use Rattle.mm_rules.specs.MentionRules.{broken, fails_of, rule_if}

-- where a rule holds, its test does not fail
pub no_rule : (fails : Bool) (rule : CrateRule) → rule_if fails rule ≡ [] → fails ≡ false
no_rule true rule none = absurd (cc none)
no_rule false rule none = refl

-- two lists with nothing in both together
pub both_empty : {X : Type 0} (xs ys : List X) → xs ++ ys ≡ [] → (xs ≡ []) × (ys ≡ [])
both_empty [] ys none = (refl, none)
both_empty (x ∷ xs) ys none = absurd (cc none)

-- what does not fail of what is found holds of it
pub holds_of : (o : Option Named) (test : Named → Bool) (d : Named) → o ≡ Some d → fails_of o test ≡ false → test d ≡ true
holds_of o test d is fails = not-false (test d) (ap (λ q. fails_of q test) (sym is) ∙ fails)

-- it is known in its scope
pub is_known : (scope : Scope) (known : Bool) → broken scope (whats.Scoped known) ≡ [] → known ≡ true
is_known scope known kept = not-false known (no_rule (not known) UnknownName kept)

-- what is called through `Call` has an operand
pub is_callable : (scope : Scope) (n : ℕ) → broken scope (whats.Callable n) ≡ [] → 1 ≤ n
is_callable scope n kept = let some = eqb-false n 0 (no_rule (nat_eq n 0) WrongArity kept) in omega (arith, some)
