-- The closure of uses: what it has, and that it is one.
use Rattle.std.proofs.Common.{◌≡◌, ◌≢◌, ℕ, ◌<◌, ◌≤◌, List, [], ◌∷◌, length, true, false, sym, ◌∙◌, refl, arith}
use Rattle.std.proofs.lemmas.Bool.{false≢true}
use Rattle.std.specs.Prelude.{Contains}
use Rattle.std.specs.List.{IsDistinct, remove}
use Rattle.std.specs.List.Sorted.{IsPermutation}
use Rattle.std.specs.Set.{is_member}
use Rattle.std.proofs.lemmas.List.Elements.{All-from_recursion, All-contains, Contains-append_right}
use Rattle.std.proofs.lemmas.List.Sorted.{IsPermutation-refl, IsPermutation-sym, IsPermutation-trans, IsPermutation-cons, IsPermutation-remove, Contains-permutation}
use Rattle.std.proofs.lemmas.Map.Keys.{IsDistinct-IsPermutation}
use Rattle.std.proofs.lemmas.Map.Made.{length-le_from_is_member, is_member-Decides, Contains-tail}
use Rattle.mm_terms.specs.declared.item.Item.{Item}
use Rattle.mm_terms.specs.Same.{same_item, same_item_equiv, items_equal}
use Rattle.mm_terms.specs.Closure.{EndsChain, IsMember, AreMembers, HasMoreThan}

module _ (roots : List Item) (uses : Item → List Item) where
  -- a root is a member
  pub member_root : (x : Item) → Contains roots x → IsMember roots uses x
  member_root x root = ([], root)

  -- what a member uses is a member
  pub member_used : (x y : Item) → IsMember roots uses x → Contains (uses x) y → IsMember roots uses y
  member_used x y member used = (x ∷ member.0, (used, member.1))

  ends_with : (P : Item → Type 0) → ((x : Item) → Contains roots x → P x) → ((x y : Item) → P x → Contains (uses x) y → P y) → (x : Item) (before : List Item) → EndsChain roots uses x before → P x
  ends_with P root used x [] chain = root x chain
  ends_with P root used x (user ∷ before) chain = used user x (ends_with P root used user before chain.1) chain.0

  -- the closure is the least: what holds of each root, and of all that an item uses of which it holds, holds of each member
  pub least : (P : Item → Type 0) → ((x : Item) → Contains roots x → P x) → ((x y : Item) → P x → Contains (uses x) y → P y) → (x : Item) → IsMember roots uses x → P x
  least P root used x member = ends_with P root used x member.0 member.1

-- ---- lists without repeats

-- members of one list that are members of the other, in the words of std
among : (xs ys : List Item) → ((q : Item) → Contains xs q → Contains ys q) → (q : Item) → is_member same_item xs q ≡ true → is_member same_item ys q ≡ true
among xs ys within q is = (is_member-Decides items_equal ys q).1 (within q ((is_member-Decides items_equal xs q).0 is))

pub no_longer : (xs ys : List Item) → IsDistinct same_item xs → ((q : Item) → Contains xs q → Contains ys q) → length xs ≤ length ys
no_longer xs ys once within = length-le_from_is_member same_item_equiv xs ys once (among xs ys within)

-- the first of a list without repeats is none of the others
not_first : (x : Item) (xs : List Item) → IsDistinct same_item (x ∷ xs) → (q : Item) → Contains xs q → x ≢ q
unfolding IsDistinct
not_first x xs once q has e =
    let other : same_item x q ≡ false = All-contains (λ y. same_item x y ≡ false) xs q (All-from_recursion (λ y. same_item x y ≡ false) xs once.0) has in
    false≢true (sym other ∙ (items_equal x q).1 e)

others_once : (x : Item) (xs : List Item) → IsDistinct same_item (x ∷ xs) → IsDistinct same_item xs
unfolding IsDistinct
others_once x xs once = once.1

first_in : (x : Item) (xs : List Item) → Contains (x ∷ xs) x
first_in x xs = (0, omega arith, refl)

later_in : (x : Item) (xs : List Item) (q : Item) → Contains xs q → Contains (x ∷ xs) q
later_in x xs q has = Contains-append_right (x ∷ []) xs q has

-- two lists without repeats that have the same items have them in some order
pub permuted : (xs ys : List Item) → IsDistinct same_item xs → IsDistinct same_item ys → ((q : Item) → Contains xs q → Contains ys q) → ((q : Item) → Contains ys q → Contains xs q) → IsPermutation xs ys
permuted [] [] once_xs once_ys there back = IsPermutation-refl []
permuted [] (y ∷ ys) once_xs once_ys there back = absurd (let none = back y (first_in y ys) in omega arith)
permuted (x ∷ xs) ys once_xs once_ys there back =
    let at : Contains ys x = there x (first_in x xs) in
    let rest : List Item = remove ys at.0 in
    let prefix : IsPermutation ys (x ∷ rest) = IsPermutation-remove ys at.0 x at.1 (sym at.2) in
    let once : IsDistinct same_item (x ∷ rest) = IsDistinct-IsPermutation same_item same_item_equiv.symm ys (x ∷ rest) prefix once_ys in
    let below : IsPermutation xs rest = permuted xs rest (others_once x xs once_xs) (others_once x rest once)
    (λ q has. Contains-tail x rest q (not_first x xs once_xs q has) (Contains-permutation ys (x ∷ rest) q prefix (there q (later_in x xs q has))))
    (λ q has. Contains-tail x xs q (not_first x rest once q has) (back q (Contains-permutation (x ∷ rest) ys q (IsPermutation-sym ys (x ∷ rest) prefix) (later_in x rest q has)))) in
    IsPermutation-trans (x ∷ xs) (x ∷ rest) ys (IsPermutation-cons x xs rest below) (IsPermutation-sym ys (x ∷ rest) prefix)

-- ---- the laws

pub more_is_longer : (roots : List Item) (uses : Item → List Item) (n : ℕ) (items : List Item) → HasMoreThan roots uses n → AreMembers roots uses items → n < length items
more_is_longer roots uses n items more members =
    let within = no_longer more.items items more.once (λ q has. members.all q (All-contains (IsMember roots uses) more.items q more.each has)) in
    omega (arith, more.many)

pub one_closure : (roots : List Item) (uses : Item → List Item) (items others : List Item) → AreMembers roots uses items → AreMembers roots uses others → IsPermutation items others
one_closure roots uses items others a b =
    permuted items others a.once b.once
    (λ q has. b.all q (All-contains (IsMember roots uses) items q a.each has))
    (λ q has. a.all q (All-contains (IsMember roots uses) others q b.each has))
