use Rattle.std.proofs.Common.{◌≡◌, ◌++◌, not, is_some, is_none, Option, Some, None, refl, ◌∙◌, ap}
use Rattle.mm_rules.specs.declared.fault.CrateRule.TheVariants.{UnknownName, PrivateName, WrongArity}
use Rattle.mm_definitions.specs.declared.named.Named.{Named}
use Rattle.mm_rules.specs.MentionRules.{names, rule_if, at_line}
use Rattle.mm_resolve.specs.Scopes.{leads_to}
use Rattle.mm_rules.proofs.FaultLemmas.{three_at}
use Rattle.mm_rules.proofs.mention_rules.add_path.Goals as goal

not_some : (o : Option Named) → not (is_some o) ≡ is_none o
not_some None = refl
not_some (Some d) = refl

pub returns : goal.returns
returns c = λ seen knows.
    let line = c.args.line in
    let old = c.args.faults.now in
    let p = c.args.path.now in
    c.in_ok-add_if-3.ensures
    ∙ ap (λ fs. fs ++ at_line line (rule_if c.is_misfit.result WrongArity)) (
    c.in_ok-add_if-2.ensures ∙ ap (λ fs. fs ++ at_line line (rule_if (not c.sees-is_private.result) PrivateName)) c.in_ok-add_if.ensures)
    ∙ three_at old line (rule_if c.is_unknown.result UnknownName) (rule_if (not c.sees-is_private.result) PrivateName) (rule_if c.is_misfit.result WrongArity)
    ∙ ap (λ b. old ++ at_line line (rule_if b UnknownName ++ rule_if (not c.sees-is_private.result) PrivateName ++ rule_if c.is_misfit.result WrongArity)) (c.is_unknown.ensures seen knows)
    ∙ ap (λ b. old ++ at_line line (rule_if (is_none (leads_to seen p.wanted p.path)) UnknownName ++ rule_if b PrivateName ++ rule_if c.is_misfit.result WrongArity))
    (ap not (c.sees-is_private.ensures seen knows) ∙ ap (λ path. not (is_some (names seen p.wanted path))) c.as_slice.ensures ∙ not_some (names seen p.wanted p.path))
    ∙ ap (λ b. old ++ at_line line (rule_if (is_none (leads_to seen p.wanted p.path)) UnknownName ++ rule_if (is_none (names seen p.wanted p.path)) PrivateName ++ rule_if b WrongArity)) (c.is_misfit.ensures seen knows)
