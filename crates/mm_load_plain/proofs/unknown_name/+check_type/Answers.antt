use Rattle.std.proofs.Common.{Ok, length, ap, arith}
use Rattle.mm_load_plain.specs.Names.{look_up}
use Rattle.mm_load_plain.specs.Rules.{unknown_head, unknown_in_type}
use Rattle.mm_definitions.specs.Trees.{line_of, head_of, children_of}
use Rattle.std.specs.List.{flat_map}
use Rattle.mm_load_plain.specs.declared.rule.Rule.TheVariants.{UnknownName}
use Rattle.mm_load_plain.proofs.WrittenLemmas.{reports_in_type}
use Rattle.mm_load_plain.proofs.AskingLemmas.{reports_next, kept_all}
use Rattle.mm_load_plain.proofs.unknown_name.+check_type.Goals as goal

pub returns : goal.returns
returns t c =
    let scope = look_up c.args.scope.now in
    let ty = c.args.ty.now in
    reports_in_type UnknownName scope ty (Ok tt)
    (reports_next UnknownName (unknown_head scope (line_of ty) (head_of ty)) (flat_map (unknown_in_type scope) (children_of ty)) tt (Ok tt) c.in_ok-check_head.ensures
    (kept_all (unknown_in_type scope) (children_of ty) c.loop-child.child-index UnknownName c.loop-child.invariant (omega (arith, ap length c.as_slice-child-items.ensures))))
