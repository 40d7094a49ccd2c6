use Rattle.std.proofs.Common.{◌≡◌, ◌++◌, drop, map}
use Rattle.mm_terms.specs.Tree.{children_of}
use Rattle.mm_symbols.specs.ItemForms.{type_form}
use Rattle.mm_symbols.proofs.of_items.+type_form.Given as goal

-- the forms so far, and those of the children that are left, are all
abbrev pub invariant-loop-child : goal.invariant-loop-child
invariant-loop-child l = l.children.items ++ map (type_form l.p) (drop l.child-index (children_of l.tree)) ≡ map (type_form l.p) (children_of l.tree)
