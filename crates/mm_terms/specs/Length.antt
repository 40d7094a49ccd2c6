-- How long types and items are: the number of constructors in them, repeats counted.
use Rattle.std.specs.Prelude.{◌≡◌, ℕ, ◌+◌, ◌≤◌, List, [], ◌∷◌, length, sum, map, All}
use Rattle.std.proofs.Common.{ap, ◌∙◌, arith, refl, sym, zero-add}
use Rattle.std.proofs.lemmas.List.Elements.{All-nil, All-cons, All-weaker}
use Rattle.std.proofs.lemmas.List.Sums.{sum_by-cons}
use Rattle.mm_terms.specs.declared.ty_head.TyHead.{TyHead}
use Rattle.mm_terms.specs.declared.tree.Tree.{Tree}
use Rattle.mm_terms.specs.declared.item.Item.{Item}
use Rattle.mm_terms.specs.declared.item.Item.TheVariants.{Fn, Glue, Shim, Static}
use Rattle.mm_terms.specs.Order.{types_of}
use Rattle.mm_terms.specs.Tree.{tree_fold, tree_fold-parts, children_of, node, children_of-node}

-- the head counts one, and each child its own length
unfoldable pub length_of : Tree → ℕ
length_of = tree_fold (λ head lengths. 1 + sum lengths)

-- the sum over several types
abbrev pub lengths_of : List Tree → ℕ
lengths_of ts = sum (map length_of ts)

-- the length of an item's types; a static has none
abbrev pub item_length : Item → ℕ
item_length (Fn f args) = lengths_of args
item_length (Glue t) = length_of t
item_length (Shim t) = length_of t
item_length (Static d) = 0

-- ---- laws

-- the head, and then the children
pub length_of-parts : (t : Tree) → length_of t ≡ 1 + lengths_of (children_of t)
unfolding length_of
length_of-parts t = tree_fold-parts (λ head lengths. 1 + sum lengths) t

pub lengths_of-cons : (t : Tree) (ts : List Tree) → lengths_of (t ∷ ts) ≡ length_of t + lengths_of ts
lengths_of-cons t ts = sum_by-cons (λ n. n) (length_of t) (map length_of ts)

pub length_of-node : (head : TyHead) (children : List Tree) → length_of (node head children) ≡ 1 + lengths_of children
length_of-node head children = length_of-parts (node head children) ∙ ap (λ ts. 1 + lengths_of ts) (children_of-node head children)

-- an item is as long as all the types that it has
pub item_length-types : (x : Item) → item_length x ≡ lengths_of (types_of x)
item_length-types (Fn f args) = refl
item_length-types (Glue t) = sym (zero-add (length_of t))
item_length-types (Shim t) = sym (zero-add (length_of t))
item_length-types (Static d) = refl

-- each type counts at least one
pub length-le_lengths_of : (ts : List Tree) → length ts ≤ lengths_of ts
length-le_lengths_of [] = omega arith
length-le_lengths_of (t ∷ ts) = omega (arith, lengths_of-cons t ts, length_of-parts t, length-le_lengths_of ts)

-- none is longer than all of them together
pub length_of-le_lengths_of : (ts : List Tree) → All (λ t. length_of t ≤ lengths_of ts) ts
length_of-le_lengths_of [] = All-nil (λ t. length_of t ≤ lengths_of [])
length_of-le_lengths_of (t ∷ ts) =
    let Within : Tree → Type 0 = λ s. length_of s ≤ lengths_of (t ∷ ts) in
    let more = lengths_of-cons t ts in
    All-cons Within t ts (omega arith) (All-weaker (λ s. length_of s ≤ lengths_of ts) Within (λ s within. omega arith) ts (length_of-le_lengths_of ts))
