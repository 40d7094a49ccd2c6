use Rattle.std.proofs.Common.{◌≡◌, ◌++◌, take}
use Rattle.std.specs.List.{flat_map}
use Rattle.mm_ast.specs.declared.items.Item.TheViews.{out-Item}
use Rattle.mm_resolve.specs.Doubles.{member_of}
use Rattle.mm_resolve.proofs.double_name.+add_inside.Given as goal

abbrev pub invariant-loop-inner : goal.invariant-loop-inner
invariant-loop-inner l = l.lines ≡ l.initial.lines ++ flat_map (λ item. (member_of item).inside) (take l.inner-index (out-Item l.item).items)
