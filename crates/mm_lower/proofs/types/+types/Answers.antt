use Rattle.std.proofs.Common.{◌++◌, map, sym, ◌∙◌, ap}
use Rattle.std.proofs.lemmas.Result.{IfOk-weaker}
use Rattle.mm_terms.specs.Tree.{node}
use Rattle.mm_definitions.specs.Trees.{children_of}
use Rattle.mm_lower.specs.Seen.{params, paths}
use Rattle.mm_lower.specs.Types.{type_of, types_of}
use Rattle.mm_lower.proofs.TypeLemmas.{mapped_more, type_of_parts}
use Rattle.mm_lower.proofs.types.+types.Goals as goal

pub lower_type-returns : goal.lower_type-returns
lower_type-returns t c =
    let ty = c.args.ty.now in
    let ways = paths c.args.names.now in
    let numbers = params c.args.names.now in
    let below = types_of ways numbers (children_of ty) in
    let children = c.in_ok-add_types.ensures ∙ ap (λ ts. ts ++ types_of ways numbers c.as_slice.result.now) c.new-children.ensures.items ∙ ap (types_of ways numbers) c.as_slice.ensures in
    IfOk-weaker c.type_over.result _ _ (λ made h. h ∙ ap (node c.in_ok-head.head) children ∙ ap (λ head. node head below) c.in_ok-head.ensures ∙ sym (type_of_parts ways numbers ty)) c.type_over.ensures

pub add_types-loop-ty-preserved : goal.add_types-loop-ty-preserved
add_types-loop-ty-preserved t c =
    let f = type_of (paths c.args.names.now) (params c.args.names.now) in
    mapped_more f c.args.types.now c.loop-ty.ty-index c.ty-item.result c.in_ok-lower_type.field-0 c.args.tys.now.items c.loop-ty.tys.items c.push.new.self.items
    c.loop-ty-test.true c.ty-item.is c.in_ok-lower_type.ensures c.loop-ty.invariant c.in_ok-push.ensures.items
