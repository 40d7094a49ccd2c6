use Rattle.std.proofs.Common.{◌≡◌, ℕ, List, take}
use Rattle.mm_mentions.specs.Scopes.{of_params}
use Rattle.mm_mentions.specs.Seen.{names_of}
use Rattle.mm_mentions.proofs.scope.param_names.Given as goal

abbrev pub invariant-loop-param : goal.invariant-loop-param
invariant-loop-param l = (q : List ℕ) → names_of l.set q ≡ of_params (take l.param-index l.params) q
