use Rattle.std.proofs.Common.{rules, ◌∷◌, [], Contains}
use Rattle.std.proofs.lemmas.List.Elements.{All-same}
use Rattle.mm_collect.proofs.GrowthLemmas.{inserted, behind}
use Rattle.mm_collect.proofs.closure.claim.Goals as goal

pub returns-in_err-insert-clause-among : goal.returns-in_err-insert-clause-among
returns-in_err-insert-clause-among c = All-same (Contains (c.args.item ∷ c.args.found.now.keys)) _ _ (search rules) (behind (c.args.item ∷ []) c.args.found.now.keys)

pub returns-then-len-limit-clause-among : goal.returns-then-len-limit-clause-among
returns-then-len-limit-clause-among c = All-same (Contains (c.args.item ∷ c.args.found.now.keys)) _ _ c.in_ok-insert.ensures.keys (inserted c.args.found.now.keys c.args.item)

pub returns-clause-among : goal.returns-clause-among
returns-clause-among c = All-same (Contains (c.args.item ∷ c.args.found.now.keys)) _ _ c.in_ok-insert.ensures.keys (inserted c.args.found.now.keys c.args.item)
