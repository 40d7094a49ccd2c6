-- Members in order of finding are one list.
use Rattle.std.proofs.Common.{◌≡◌, ◌⊎◌, ℕ, ◌+◌, ◌-◌, ◌≤◌, suc, zero, List, [], ◌∷◌, ◌++◌, length, take, drop, All, Contains, refl, sym, ap, subst, ◌∙◌, inl, inr, ⊎_elim, arith}
use Rattle.std.specs.Prelude.{flat_map}
use Rattle.std.proofs.Math.Seq.{take-append-add}
use Rattle.std.proofs.lemmas.Bool.{cases_lt}
use Rattle.std.proofs.lemmas.List.{append_assoc, append-nil, length-append, take_all, take-append-drop, take-append-le}
use Rattle.std.proofs.lemmas.List.Concat.{flat_map-append}
use Rattle.std.proofs.lemmas.List.Elements.{All-contains, Contains-append_left, Contains-append_right}
use Rattle.mm_terms.specs.declared.item.Item.{Item}
use Rattle.mm_terms.specs.Closure.{IsMember, AreMembers}
use Rattle.mm_terms.proofs.ClosureLemmas.{least, no_longer}
use Rattle.mm_plain.specs.Finding.{firsts, AreInOrder}
use Rattle.mm_collect.proofs.GrowthLemmas.{in_prefix}
use Rattle.mm_collect.proofs.ClosingLemmas.{grown, insert_all-append, all_in}
use Rattle.mm_collect.proofs.VerdictLemmas.{noted_in}

empty : (xs : List Item) → length xs ≤ 0 → xs ≡ []
empty [] none = refl
empty (x ∷ xs) none = absurd (omega (arith, none))

module _ (roots : List Item) (uses : Item → List Item) where
  -- what the roots are and the first k items use
  abbrev prefix : List Item → ℕ → List Item
  prefix items k = firsts (roots ++ flat_map uses (take k items))

  -- it stands before all others
  begins : (items : List Item) (k : ℕ) → AreInOrder roots uses items → (more : List Item) × (items ≡ prefix items k ++ more)
  begins items k order =
      let some : List Item = flat_map uses (take k items) in
      let rest : List Item = flat_map uses (drop k items) in
      let both : flat_map uses items ≡ some ++ rest = ap (flat_map uses) (sym (take-append-drop k items)) ∙ flat_map-append uses (take k items) (drop k items) in
      let more = grown (prefix items k) rest in (
        more.0,
        order
            ∙ ap (λ all. firsts (roots ++ all)) both
            ∙ ap firsts (sym (append_assoc roots some rest))
            ∙ insert_all-append [] (roots ++ some) rest
            ∙ more.1,
      )

  -- where there are no more than k of it, these are all
  ends : (items : List Item) (k : ℕ) → AreMembers roots uses items → AreInOrder roots uses items → length (prefix items k) ≤ k → items ≡ prefix items k
  ends items k members order few =
      let some : List Item = flat_map uses (take k items) in
      let first : List Item = prefix items k in
      let more = begins items k order in
      let named : All (Contains first) (roots ++ some) = all_in [] (roots ++ some) in
      let count : k ≡ length first + (k - length first) = omega (arith, few) in
      let seam : take k items ≡ first ++ take (k - length first) more.0 = (λ i. take (count i) (more.1 i)) ∙ take-append-add first more.0 (k - length first) in
      let early : All (Contains (take k items)) first = subst (λ ts. All (Contains ts) first) (sym seam) (in_prefix first (take (k - length first) more.0)) in
      let all : (x : Item) → IsMember roots uses x → Contains first x =
      least roots uses (Contains first)
      (λ x root. All-contains (Contains first) (roots ++ some) x named (Contains-append_left roots some x root))
      (λ x y has used. All-contains (Contains first) (roots ++ some) y named
      (Contains-append_right roots some y (noted_in uses (take k items) x y (All-contains (Contains (take k items)) first x early has) used))) in
      let no_more = no_longer items first members.once (λ q has. all q (All-contains (IsMember roots uses) items q members.each has)) in
      let lengths : length items ≡ length first + length more.0 = ap length more.1 ∙ length-append first more.0 in
      more.1 ∙ ap (λ last. first ++ last) (empty more.0 (omega (arith, no_more, lengths))) ∙ append-nil first

  module _ (items others : List Item) (members : AreMembers roots uses items) (too : AreMembers roots uses others) (order : AreInOrder roots uses items) (same : AreInOrder roots uses others) where
    one_more : (k : ℕ) → take k items ≡ take k others → (take (suc k) items ≡ take (suc k) others) ⊎ (items ≡ others)
    one_more k so_far =
        let first : List Item = prefix items k in
        let prefixes : first ≡ prefix others k = ap (λ ts. firsts (roots ++ flat_map uses ts)) so_far in
        let a = begins items k order in
        let b = begins others k same in
        ⊎_elim
        (λ within. inl (
        ap (take (suc k)) a.1
        ∙ take-append-le (suc k) first a.0 within
        ∙ sym (take-append-le (suc k) first b.0 within)
        ∙ ap (λ ts. take (suc k) (ts ++ b.0)) prefixes
        ∙ ap (take (suc k)) (sym b.1)))
        (λ few. inr (ends items k members order few ∙ prefixes ∙ sym (ends others k too same (subst (λ ts. length ts ≤ k) prefixes few))))
        (cases_lt k (length first))

    alike : (k : ℕ) → (take k items ≡ take k others) ⊎ (items ≡ others)
    alike zero = inl refl
    alike (suc k) = ⊎_elim (λ so_far. one_more k so_far) inr (alike k)

    -- two lists of the members in order of finding are equal
    pub one_list : items ≡ others
    one_list =
        let n = length items + length others in
        ⊎_elim
        (λ so_far. sym (take_all n items (omega arith)) ∙ so_far ∙ take_all n others (omega arith))
        (λ equal. equal)
        (alike n)
