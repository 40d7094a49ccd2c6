use Rattle.std.proofs.Common.{subst}
use Rattle.mm_load_plain.specs.Asking.{Reports}
use Rattle.mm_load_plain.specs.Names.{look_up}
use Rattle.mm_load_plain.specs.Rules.{unknown_in_scope}
use Rattle.mm_load_plain.specs.declared.rule.Rule.TheVariants.{UnknownName}
use Rattle.mm_load_plain.proofs.unknown_name.check_function.Goals as goal

pub returns : goal.returns
returns c = subst (λ scope. Reports UnknownName (unknown_in_scope (look_up c.args.paths.now) scope c.args.function.now) c.check_in_scope.result) c.in_ok-scope.ensures c.check_in_scope.ensures
