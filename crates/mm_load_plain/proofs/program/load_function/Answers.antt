use Rattle.std.proofs.Common.{IfOk, subst, ◌≡◌}
use Rattle.mm_load_plain.specs.Names.{look_up}
use Rattle.mm_load_plain.specs.Meaning.{function_in}
use Rattle.mm_load_plain.specs.Seen.{function_seen}
use Rattle.mm_load_plain.proofs.program.load_function.Goals as goal

pub returns : goal.returns
returns c = subst (λ scope. IfOk c.load_in_scope.result (λ f. f ≡ function_in (look_up c.args.paths.now) scope (function_seen c.args.defined.now))) c.in_ok-scope.ensures c.load_in_scope.ensures
