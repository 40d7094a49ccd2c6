use Rattle.std.proofs.Common.{◌≡◌, ◌++◌, take}
use Rattle.mm_resolve.specs.Scopes.{Scope, Knows}
use Rattle.mm_rules.specs.MentionRules.{faults_in}
use Rattle.mm_rules.proofs.mention_rules.add_mention_faults.Given as goal

abbrev pub invariant-loop-mention : goal.invariant-loop-mention
invariant-loop-mention l = (seen : Scope) → Knows l.scope seen → l.faults ≡ l.initial.faults ++ faults_in seen (take l.mention-index l.mentions)
