-- What a path leads to that breaks no rule.
use Rattle.std.specs.Prelude.{◌≡◌, ℕ, List, Option, None, Some, true, false, is_none, [], ◌++◌, nat_eq}
use Rattle.std.proofs.lemmas.Bool.{true≢false, eqb-true}
use Rattle.mm_definitions.specs.declared.kinds.Wanted.{Wanted}
use Rattle.mm_definitions.specs.declared.named.Named.{Named}
use Rattle.mm_mentions.specs.declared.mention.PathMention.{PathMention}
use Rattle.mm_mentions.specs.declared.mention.What.TheVariants as whats
use Rattle.mm_resolve.specs.Scopes.{Scope, leads_to}
use Rattle.mm_rules.specs.declared.fault.CrateRule.{CrateRule}
use Rattle.mm_rules.specs.declared.fault.CrateRule.TheVariants.{UnknownName, PrivateName, WrongArity}
use Rattle.mm_rules.specs.MentionRules.{broken, fails_of, fits, names, operands_fit, rule_if}
use Rattle.mm_terms.proofs.ListLemmas.{and_left, and_right}
use Rattle.mm_load.proofs.MentionsKept.{no_rule, both_empty, holds_of}

-- it leads to something with as many type parameters, and as many operands where they are written
pub record Found (scope : Scope) (w : Wanted) (path : List ℕ) (type_args : ℕ) (operands : Option ℕ) : Type 0 where
  pub to : Named
  pub leads : leads_to scope w path ≡ Some to
  pub type_params : type_args ≡ to.type_params
  pub as_many : operands_fit operands to.operands ≡ true

found_from : (scope : Scope) (p : PathMention) (o : Option Named) → leads_to scope p.wanted p.path ≡ o → is_none o ≡ false → fails_of o (fits p) ≡ false → Found scope p.wanted p.path p.type_args p.operands
found_from scope p None leads some fails = absurd (true≢false some)
found_from scope p (Some to) leads some fails =
    let fit : fits p to ≡ true = holds_of (Some to) (fits p) to (λ i. Some to) fails in
    record {
      to = to;
      leads = leads;
      type_params = eqb-true p.type_args to.type_params (and_left (nat_eq p.type_args to.type_params) (operands_fit p.operands to.operands) fit);
      as_many = and_right (nat_eq p.type_args to.type_params) (operands_fit p.operands to.operands) fit;
    }

pub found_at : (scope : Scope) (p : PathMention) → broken scope (whats.Path p) ≡ [] → Found scope p.wanted p.path p.type_args p.operands
found_at scope p kept =
    let unknown : List CrateRule = rule_if (is_none (leads_to scope p.wanted p.path)) UnknownName in
    let hidden : List CrateRule = rule_if (is_none (names scope p.wanted p.path)) PrivateName in
    let wrong : List CrateRule = rule_if (fails_of (leads_to scope p.wanted p.path) (fits p)) WrongArity in
    let all = both_empty (unknown ++ hidden) wrong kept in
    let both = both_empty unknown hidden all.0 in
    found_from scope p (leads_to scope p.wanted p.path) (λ i. leads_to scope p.wanted p.path)
    (no_rule (is_none (leads_to scope p.wanted p.path)) UnknownName both.0)
    (no_rule (fails_of (leads_to scope p.wanted p.path) (fits p)) WrongArity all.1)
