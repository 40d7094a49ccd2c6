use Rattle.std.proofs.Common.{◌≡◌, ◌+◌, ◌∙◌, length, sym, ap, subst, arith}
use Rattle.mm_terms.specs.Formed.{FitsHead}
use Rattle.mm_terms.specs.Length.{lengths_of, length_of-node}
use Rattle.mm_terms.proofs.TypeLemmas.{IsType-node}
use Rattle.mm_terms.proofs.ty.Ty.from_children.Goals as goal

pub invariant_of-result : goal.invariant_of-result
invariant_of-result c =
    let same = c.in_ok-children.ensures.same in
    let long = c.in-Some.ensures in
    let all : c.in-Some.length ≡ 1 + lengths_of c.in_ok-children.children = long.1 ∙ ap (λ list. 1 + lengths_of list) (c.deref.ensures.value ∙ sym same) in
    let fits = subst (λ list. FitsHead c.args.head (length list)) (sym same) c.requires in (
      IsType-node c.args.head c.in_ok-children.children fits c.in_ok-children.ensures.formed (omega (arith, all, long.0, long.1)),
      all ∙ sym (length_of-node c.args.head c.in_ok-children.children),
    )
