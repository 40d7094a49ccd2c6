-- What a list of found items keeps while it grows.
use Rattle.std.proofs.Common.{List, [], ◌∷◌, ◌++◌, All, Contains, true, false, Bool, cond, refl, lit<}
use Rattle.std.specs.List.{list_any}
use Rattle.std.proofs.lemmas.List.Elements.{All-weaker, All-contains, All-contains_itself, All-push, Contains-append_left, Contains-append_right}
use Rattle.indexmap.specs.IndexSet.{insert_key}
use Rattle.mm_terms.specs.declared.item.Item.{Item}
use Rattle.mm_terms.specs.Same.{same_item}

-- what holds of each item of one list holds of all items that come from it
pub carried : (P : Item → Type 0) (xs ys : List Item) → All P xs → All (Contains xs) ys → All P ys
carried P xs ys holds from = All-weaker (Contains xs) P (λ x has. All-contains P xs x holds has) ys from

pub in_prefix : (xs ys : List Item) → All (Contains (xs ++ ys)) xs
in_prefix xs ys = All-weaker (Contains xs) (Contains (xs ++ ys)) (λ x. Contains-append_left xs ys x) xs (All-contains_itself xs)

pub behind : (xs ys : List Item) → All (Contains (xs ++ ys)) ys
behind xs ys = All-weaker (Contains ys) (Contains (xs ++ ys)) (λ y. Contains-append_right xs ys y) ys (All-contains_itself ys)

-- an item that is inserted is the one that may be new
pub inserted : (keys : List Item) (x : Item) → All (Contains (x ∷ keys)) (insert_key same_item keys x)
inserted keys x = by (list_any (same_item x) keys)
  where
    by : (b : Bool) → All (Contains (x ∷ keys)) (cond b keys (keys ++ x ∷ []))
    by true = behind (x ∷ []) keys
    by false = All-push (Contains (x ∷ keys)) keys x (behind (x ∷ []) keys) (All-contains (Contains (x ∷ keys)) (x ∷ []) x (in_prefix (x ∷ []) keys) (0, lit< tt, refl))
