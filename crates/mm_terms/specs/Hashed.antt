-- What types and items feed a hasher: all that they are.
use Rattle.std.specs.Prelude.{◌≡◌, List, ◌++◌, map}
use Rattle.std.proofs.Common.{◌∙◌, ap}
use Rattle.std.proofs.lemmas.List.{length-map}
use Rattle.std.proofs.lemmas.List.Folds.{flat_map-map}
use Rattle.std.specs.Hash as fed
use Rattle.std.specs.Hash.{HashWrites}
use Rattle.mm_terms.specs.contracts.ty_head.TyHeadHash.TheImpl as head
use Rattle.mm_terms.specs.declared.ty_head.TyHead.{TyHead}
use Rattle.mm_terms.specs.declared.tree.Tree.{Tree}
use Rattle.mm_terms.specs.declared.head.Head.{Head}
use Rattle.mm_terms.specs.declared.item.Item.{Item}
use Rattle.mm_terms.specs.Order.{kind_of, id_of, types_of}
use Rattle.mm_terms.specs.Tree.{tree_fold, tree_fold-parts, head_of, children_of}

-- a head, and then its children as a slice
abbrev pub fed_layer : TyHead → List HashWrites → HashWrites
fed_layer h children = (head.ghosts).hash_input h ++ fed.slice (λ writes. writes) children

-- a type feeds its layers from its head on
unfoldable pub fed_tree : Tree → HashWrites
fed_tree = tree_fold fed_layer

-- the variant, the id and the types
unfoldable pub fed_item : Item → HashWrites
fed_item x = fed.u8 (kind_of x) ++ fed.u32 (id_of x) ++ fed.slice fed_tree (types_of x)

-- the trait and the types
unfoldable pub fed_head : Head → HashWrites
fed_head h = fed.u32 h.tr.0 ++ fed.slice fed_tree h.args

-- ---- laws

slice-map : {T : Type 0} (F : T → HashWrites) (xs : List T) → fed.slice (λ writes. writes) (map F xs) ≡ fed.slice F xs
slice-map F xs = λ i. fed.usize (length-map xs F i) ++ flat_map-map (λ writes. writes) F xs i

pub fed_tree-parts : (t : Tree) → fed_tree t ≡ (head.ghosts).hash_input (head_of t) ++ fed.slice fed_tree (children_of t)
unfolding fed_tree
fed_tree-parts t = tree_fold-parts fed_layer t ∙ ap (λ writes. (head.ghosts).hash_input (head_of t) ++ writes) (slice-map fed_tree (children_of t))
