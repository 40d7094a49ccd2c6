-- The work list of a closure: what is found so far, and the front of it that has been scanned.
use Rattle.std.proofs.Common.{◌≡◌, ℕ, ◌+◌, ◌<◌, ◌≤◌, List, [], ◌∷◌, ◌++◌, length, take, get_or, All, Contains, true, false, Bool, cond, refl, sym, ap, subst, ◌∙◌, arith}
use Rattle.std.specs.List.{IsDistinct, list_any}
use Rattle.std.proofs.lemmas.List.{append_assoc, append-nil, length-append, take_all, take_more, take-append-le}
use Rattle.std.proofs.lemmas.List.Concat.{flat_map-append}
use Rattle.std.specs.Prelude.{flat_map}
use Rattle.std.proofs.lemmas.List.Elements.{All-weaker, All-contains, All-append, All-cons, All-nil, All-more, All-same, All-get_or, All-contains_itself}
use Rattle.indexmap.proofs.CallerLemmas.{Contains-insert_key}
use Rattle.indexmap.specs.IndexSet.{insert_key, insert_all}
use Rattle.mm_terms.specs.declared.item.Item.{Item}
use Rattle.mm_terms.specs.Closure.{IsMember, AreMembers}
use Rattle.mm_plain.specs.Finding.{firsts, AreInOrder}
use Rattle.mm_terms.specs.Same.{same_item, items_equal}
use Rattle.mm_terms.proofs.ClosureLemmas.{member_root, member_used, least}
use Rattle.mm_collect.proofs.GrowthLemmas.{carried, in_prefix}

-- ---- inserting items one after another

-- items that are inserted go behind those that are there
grown_one : (keys : List Item) (x : Item) → (more : List Item) × (insert_key same_item keys x ≡ keys ++ more)
grown_one keys x = by (list_any (same_item x) keys)
  where
    by : (b : Bool) → (more : List Item) × (cond b keys (keys ++ x ∷ []) ≡ keys ++ more)
    by true = ([], sym (append-nil keys))
    by false = (x ∷ [], refl)

pub grown : (keys xs : List Item) → (more : List Item) × (insert_all same_item keys xs ≡ keys ++ more)
grown keys [] = ([], sym (append-nil keys))
grown keys (x ∷ xs) =
    let one = grown_one keys x in
    let rest = grown (insert_key same_item keys x) xs in
    (one.0 ++ rest.0, rest.1 ∙ ap (λ ks. ks ++ rest.0) one.1 ∙ append_assoc keys one.0 rest.0)

-- items that are inserted after others
pub insert_all-append : (keys xs ys : List Item) → insert_all same_item keys (xs ++ ys) ≡ insert_all same_item (insert_all same_item keys xs) ys
insert_all-append keys [] ys = refl
insert_all-append keys (x ∷ xs) ys = insert_all-append (insert_key same_item keys x) xs ys

pub no_shorter : (keys xs new : List Item) → new ≡ insert_all same_item keys xs → length keys ≤ length new
no_shorter keys xs new claimed =
    let more = grown keys xs in
    let lengths : length new ≡ length keys + length more.0 = ap length (claimed ∙ more.1) ∙ length-append keys more.0 in
    omega (arith, lengths)

pub stays : (keys xs : List Item) → All (Contains (insert_all same_item keys xs)) keys
stays keys xs = let more = grown keys xs in subst (λ ks. All (Contains ks) keys) (sym more.1) (in_prefix keys more.0)

pub all_in : (keys xs : List Item) → All (Contains (insert_all same_item keys xs)) xs
all_in keys [] = All-nil (Contains keys)
all_in keys (x ∷ xs) =
    let with' = insert_key same_item keys x in
    let new = insert_all same_item with' xs in
    All-cons (Contains new) x xs (All-contains (Contains new) with' x (stays with' xs) (Contains-insert_key same_item (λ a b. (items_equal a b).0) keys x)) (all_in with' xs)

-- ---- what the scanned items name

module _ {N : Type 0} (names : Item → List N) where
  -- one more item is scanned
  pub named_more : (keys new : List Item) (next : ℕ) (x : Item) → next < length keys → get_or keys next x ≡ x → (xs : List Item) → new ≡ insert_all same_item keys xs → flat_map names (take (next + 1) new) ≡ flat_map names (take next keys) ++ names x
  named_more keys new next x within is xs claimed =
      let more = grown keys xs in
      let prefix : take (next + 1) new ≡ take (next + 1) keys = ap (take (next + 1)) (claimed ∙ more.1) ∙ take-append-le (next + 1) keys more.0 (omega arith) in
      ap (flat_map names) (prefix ∙ take_more keys next x within ∙ ap (λ y. take next keys ++ y ∷ []) is)
      ∙ flat_map-append names (take next keys) (x ∷ [])
      ∙ ap (λ last. flat_map names (take next keys) ++ last) (append-nil (names x))

  -- all are scanned
  pub named_whole : (keys : List Item) (next : ℕ) → length keys ≤ next → flat_map names (take next keys) ≡ flat_map names keys
  named_whole keys next past = ap (flat_map names) (take_all next keys past)

-- ---- the work list

module _ (roots : List Item) (uses : Item → List Item) where
  -- each found item is a member, the roots are found, and so is what the first of the items use, up to the next one to scan; in this order, and nothing else
  pub record IsClosing (keys : List Item) (next : ℕ) : Type 0 where
    pub started : All (Contains keys) roots
    pub each : All (IsMember roots uses) keys
    pub closed : All (λ x. All (Contains keys) (uses x)) (take next keys)
    pub order : keys ≡ firsts (roots ++ flat_map uses (take next keys))

  -- what comes from the roots are members
  pub members_first : (keys : List Item) → All (Contains roots) keys → All (IsMember roots uses) keys
  members_first keys among = All-weaker (Contains roots) (IsMember roots uses) (λ x. member_root roots uses x) keys among

  -- the roots alone are found, and none is scanned
  pub begun : (keys : List Item) → All (Contains roots) keys → keys ≡ insert_all same_item [] roots → IsClosing keys 0
  begun keys among claimed =
      record {
        started = subst (λ ks. All (Contains ks) roots) (sym claimed) (all_in [] roots);
        each = members_first keys among;
        closed = All-nil (λ x. All (Contains keys) (uses x));
        order = claimed ∙ ap firsts (sym (append-nil roots));
      }

  -- what comes from the found items and from the uses of one of them are members
  pub members_still : (keys new : List Item) (next : ℕ) (x : Item) → IsClosing keys next → next < length keys → get_or keys next x ≡ x → All (Contains (keys ++ uses x)) new → All (IsMember roots uses) new
  members_still keys new next x closing within is among =
      let member : IsMember roots uses x = subst (IsMember roots uses) is (All-get_or (IsMember roots uses) keys next x within closing.each) in
      let used : All (IsMember roots uses) (uses x) = All-weaker (Contains (uses x)) (IsMember roots uses) (λ y has. member_used roots uses x y member has) (uses x) (All-contains_itself (uses x)) in
      carried (IsMember roots uses) (keys ++ uses x) new (All-append (IsMember roots uses) keys (uses x) closing.each used) among

  order_more : (keys new : List Item) (next : ℕ) (x : Item) → keys ≡ firsts (roots ++ flat_map uses (take next keys)) → next < length keys → get_or keys next x ≡ x → new ≡ insert_all same_item keys (uses x) → new ≡ firsts (roots ++ flat_map uses (take (next + 1) new))
  order_more keys new next x order within is claimed =
      let named : List Item = flat_map uses (take next keys) in
      claimed
      ∙ ap (λ ks. insert_all same_item ks (uses x)) order
      ∙ sym (insert_all-append [] (roots ++ named) (uses x))
      ∙ ap firsts (append_assoc roots named (uses x))
      ∙ ap (λ all. firsts (roots ++ all)) (sym (named_more uses keys new next x within is (uses x) claimed))

  -- one more item is scanned
  pub scanned : (keys new : List Item) (next : ℕ) (x : Item) → IsClosing keys next → next < length keys → get_or keys next x ≡ x → All (Contains (keys ++ uses x)) new → new ≡ insert_all same_item keys (uses x) → IsClosing new (next + 1)
  scanned keys new next x closing within is among claimed =
      let kept : All (Contains new) keys = subst (λ ks. All (Contains ks) keys) (sym claimed) (stays keys (uses x)) in
      let used : All (Contains new) (uses x) = subst (λ ks. All (Contains ks) (uses x)) (sym claimed) (all_in keys (uses x)) in
      let more = grown keys (uses x) in
      let prefix : take (next + 1) new ≡ take (next + 1) keys = ap (take (next + 1)) (claimed ∙ more.1) ∙ take-append-le (next + 1) keys more.0 (omega arith) in
      let Closed : Item → Type 0 = λ y. All (Contains new) (uses y) in
      let before : All Closed (take next keys) = All-weaker (λ y. All (Contains keys) (uses y)) Closed (λ y has. carried (Contains new) keys (uses y) kept has) (take next keys) closing.closed in
      record {
        started = carried (Contains new) keys roots kept closing.started;
        each = members_still keys new next x closing within is among;
        order = order_more keys new next x closing.order within is claimed;
        closed = All-same Closed (take (next + 1) new) (take (next + 1) keys) prefix (All-more Closed keys next x within before (subst Closed (sym is) used));
      }

  -- all are scanned: the items are the members
  pub whole : (keys : List Item) (next : ℕ) → IsClosing keys next → length keys ≤ next → IsDistinct same_item keys → AreMembers roots uses keys
  whole keys next closing past once =
      let Closed : Item → Type 0 = λ y. All (Contains keys) (uses y) in
      let closed : All Closed keys = All-same Closed keys (take next keys) (sym (take_all next keys past)) closing.closed in
      record {
        once = once;
        each = closing.each;
        all = least roots uses (Contains keys) (λ x root. All-contains (Contains keys) roots x closing.started root) (λ x y has used. All-contains (Contains keys) (uses x) y (All-contains Closed keys x closed has) used);
      }

  pub in_order : (keys : List Item) (next : ℕ) → IsClosing keys next → length keys ≤ next → AreInOrder roots uses keys
  in_order keys next closing past = closing.order ∙ ap (λ all. firsts (roots ++ all)) (named_whole uses keys next past)
