-- How the writes of a type go to a hasher in turn.
use Rattle.std.proofs.Common.{◌≡◌, ◌∙◌, ℕ, List, sym, ap, fold, length}
use Rattle.std.proofs.lemmas.List.Sums.{fold-append}
use Rattle.std.specs.Hash as fed
use Rattle.std.specs.List.{flat_map}
use Rattle.mm_terms.specs.declared.tree.Tree.{Tree}
use Rattle.mm_terms.specs.contracts.ty_head.TyHeadHash.TheImpl as head
use Rattle.mm_terms.specs.Tree.{head_of, children_of}
use Rattle.mm_terms.specs.Hashed.{fed_tree, fed_tree-parts}

-- once the head and the number of the children are fed, the children are what is left
pub children_left : {S : Type 0} (write : S → List ℕ → S) (start headed counted : S) (t : Tree) (children : List Tree) → headed ≡ fold write start ((head.ghosts).hash_input (head_of t)) → children ≡ children_of t → counted ≡ write headed (fed.le_bytes 8 (length children)) → fold write counted (flat_map fed_tree children) ≡ fold write start (fed_tree t)
children_left write start headed counted t children after_head are after_count =
    ap (λ state. fold write state (flat_map fed_tree children)) after_count
    ∙ ap (λ state. fold write state (fed.slice fed_tree children)) after_head
    ∙ ap (λ list. fold write (fold write start ((head.ghosts).hash_input (head_of t))) (fed.slice fed_tree list)) are
    ∙ sym (fold-append write start ((head.ghosts).hash_input (head_of t)) (fed.slice fed_tree (children_of t)))
    ∙ ap (fold write start) (sym (fed_tree-parts t))
