use Rattle.std.proofs.Common.{◌≡◌, drop}
use Rattle.mm_terms.specs.Tree.{children_of}
use Rattle.mm_program.specs.Marks.{marked}
use Rattle.mm_program.specs.Naming.{named_in_type, named_in_types}
use Rattle.mm_program.proofs.marking.types.+mark_tree.Given as goal

-- what is marked, and what the types that are left name, is all that the type names
abbrev pub invariant-loop-child : goal.invariant-loop-child
invariant-loop-child l = marked l.marks (named_in_types (drop l.child-index (children_of l.tree))) ≡ marked l.fn.marks (named_in_type l.tree)
