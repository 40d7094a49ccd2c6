use Rattle.std.specs.Prelude.{◌≡◌, true}
use Rattle.mm_terms.proofs.ClosureLemmas.{least, member_root, member_used}
use Rattle.mm_terms.proofs.closure_laws.least_closure.Goals as goal

pub returns-clause-closed : goal.returns-clause-closed
returns-clause-closed c roots uses = record { root = member_root roots uses; used = member_used roots uses }

pub returns-clause-least : goal.returns-clause-least
returns-clause-least c roots uses has closed = least roots uses (λ x. has x ≡ true) closed.root closed.used
