-- Two lists of lines that are in order and have the same lines are one list.
use Rattle.std.proofs.Common.{◌≡◌, ℕ, suc, ◌+◌, ◌<◌, List, [], ◌∷◌, get_or, true, false, cond, sum_by, nat_cmp, refl, sym, ◌∙◌, ap, subst, arith, inl, inr}
use Rattle.std.proofs.lemmas.Bool.{cases_Bool, false≢true, cond-true, cond-false}
use Rattle.std.proofs.lemmas.Cmp.{nat_list_cmp_total, tied_itself, upto}
use Rattle.std.proofs.lemmas.List.Sorted.{sum_by-IsPermutation}
use Rattle.std.proofs.lemmas.List.Sums.{sum_by-cons}
use Rattle.std.proofs.lemmas.Map.Text.{is_eq-slice_cmp}
use Rattle.std.specs.Cmp.Lexicographic.{slice_cmp}
use Rattle.std.specs.List.Sorted.{IsPermutation, IsSorted}
use Rattle.std.specs.Ordering.{is_lt, is_gt, is_eq, ordering_reverse}
use Rattle.std.specs.Str.{bytes_eq}
use Rattle.std.specs.declared.cmp.Ordering.{Ordering}
use Rattle.std.specs.declared.cmp.Ordering.TheVariants.{Less, Equal, Greater}
use Rattle.mm_terms.proofs.ListLemmas.{same_bytes, bytes_same}

abbrev order : List ℕ → List ℕ → Ordering
order = slice_cmp nat_cmp

-- x does not come after y
abbrev AtMost : List ℕ → List ℕ → Type 0
AtMost x y = is_gt (order x y) ≡ false

reversed : (o : Ordering) → is_lt (ordering_reverse o) ≡ is_gt o
reversed Less = refl
reversed Equal = refl
reversed Greater = refl

-- the sort's own words
at_most : (x y : List ℕ) → is_lt (order y x) ≡ false → AtMost x y
at_most x y h = sym (ap is_lt (nat_list_cmp_total.antisymm y x) ∙ reversed (order x y)) ∙ h

neither : (o p : Ordering) → o ≡ ordering_reverse p → is_gt o ≡ false → is_gt p ≡ false → is_eq o ≡ true
neither Less Less e g h = cc
neither Less Equal e g h = cc
neither Less Greater e g h = absurd (false≢true (sym h))
neither Equal p e g h = refl
neither Greater p e g h = absurd (false≢true (sym g))

both : (x y : List ℕ) → AtMost x y → AtMost y x → x ≡ y
both x y g h = same_bytes x y (sym (is_eq-slice_cmp x y) ∙ neither (order x y) (order y x) (nat_list_cmp_total.antisymm x y) g h)

equal_not_greater : (o : Ordering) → o ≡ Equal → is_gt o ≡ false
equal_not_greater o e = ap is_gt e

itself : (x : List ℕ) → AtMost x x
itself x = equal_not_greater (order x x) (tied_itself nat_list_cmp_total x)

abbrev AllAfter : List ℕ → List (List ℕ) → Type 0
AllAfter x [] = Unit {0}
AllAfter x (y ∷ ys) = AtMost x y × AllAfter x ys

-- each line is not after any behind it
abbrev InOrder : List (List ℕ) → Type 0
InOrder [] = Unit {0}
InOrder (x ∷ xs) = AllAfter x xs × InOrder xs

after_more : (x y : List ℕ) (ys : List (List ℕ)) → AtMost x y → AllAfter y ys → AllAfter x ys
after_more x y [] h a = tt
after_more x y (z ∷ ys) h a = (upto nat_list_cmp_total x y z h a.0, after_more x y ys h a.1)

sorted_tail : (x : List ℕ) (xs : List (List ℕ)) → IsSorted order (x ∷ xs) → IsSorted order xs
sorted_tail x xs s k d low high =
    let e : suc k + 1 ≡ suc (k + 1) = omega arith in
    subst (λ n. is_lt (order (get_or (x ∷ xs) n d) (get_or (x ∷ xs) (suc k) d)) ≡ false) e (s (suc k) d (omega arith) (omega arith))

sorted_first : (x y : List ℕ) (ys : List (List ℕ)) → IsSorted order (x ∷ y ∷ ys) → AtMost x y
sorted_first x y ys s = at_most x y (s 0 x (omega arith) (omega arith))

in_order : (xs : List (List ℕ)) → IsSorted order xs → InOrder xs
in_order [] s = tt
in_order (x ∷ []) s = (tt, tt)
in_order (x ∷ y ∷ ys) s =
    let rest = in_order (y ∷ ys) (sorted_tail x (y ∷ ys) s) in
    let first = sorted_first x y ys s in
    ((first, after_more x y ys first rest.0), rest)

-- how often a line stands in a list

abbrev is_one : List ℕ → List ℕ → ℕ
is_one line l = cond (bytes_eq line l) 1 0

abbrev count : List ℕ → List (List ℕ) → ℕ
count line lines = sum_by (is_one line) lines

is_one_itself : (x : List ℕ) → is_one x x ≡ 1
is_one_itself x = cond-true {A = ℕ} (bytes_eq x x) 1 0 (bytes_same x)

after_counted : (x y : List ℕ) (ys : List (List ℕ)) → AllAfter y ys → 0 < count x ys → AtMost y x
after_counted x y [] a h = absurd (omega arith)
after_counted x y (z ∷ ys) a h = elim (cases_Bool (bytes_eq x z)) [
  | inl is ↦ subst (AtMost y) (sym (same_bytes x z is)) a.0
  | inr isnt ↦ after_counted x y ys a.1 (omega (arith, h, sum_by-cons (is_one x) z ys, cond-false {A = ℕ} (bytes_eq x z) 1 0 isnt))
]

least : (x y : List ℕ) (ys : List (List ℕ)) → AllAfter y ys → 0 < count x (y ∷ ys) → AtMost y x
least x y ys a h = elim (cases_Bool (bytes_eq x y)) [
  | inl is ↦ subst (AtMost y) (sym (same_bytes x y is)) (itself y)
  | inr isnt ↦ after_counted x y ys a (omega (arith, h, sum_by-cons (is_one x) y ys, cond-false {A = ℕ} (bytes_eq x y) 1 0 isnt))
]

first_counts : (x : List ℕ) (xs : List (List ℕ)) → count x (x ∷ xs) ≡ 1 + count x xs
first_counts x xs = sum_by-cons (is_one x) x xs ∙ ap (λ n. n + count x xs) (is_one_itself x)

one_order : (xs ys : List (List ℕ)) → InOrder xs → InOrder ys → ((line : List ℕ) → count line xs ≡ count line ys) → xs ≡ ys
one_order [] [] a b same = refl
one_order [] (y ∷ ys) a b same = absurd (omega (arith, same y, first_counts y ys))
one_order (x ∷ xs) [] a b same = absurd (omega (arith, same x, first_counts x xs))
one_order (x ∷ xs) (y ∷ ys) a b same =
    let first : x ≡ y = both x y (least y x xs a.0 (omega (arith, same y, first_counts y ys))) (least x y ys b.0 (omega (arith, same x, first_counts x xs))) in
    let others : xs ≡ ys = one_order xs ys a.1 b.1 (λ line. omega (arith, same line, sum_by-cons (is_one line) x xs, sum_by-cons (is_one line) y ys, ap (is_one line) first)) in
    ap (λ l. l ∷ xs) first ∙ ap (λ l. y ∷ l) others

-- lines in order are reported by the lines alone
pub sorted_one : (xs ys : List (List ℕ)) → IsPermutation xs ys → IsSorted order xs → IsSorted order ys → xs ≡ ys
sorted_one xs ys p s t = one_order xs ys (in_order xs s) (in_order ys t) (λ line. sym (sum_by-IsPermutation (is_one line) xs ys p))
