-- The order of notes is total and tells apart all that differ; and the least of two lists of notes.
use Rattle.std.proofs.Common.{◌≡◌, ◌≢◌, ℕ, true, false, List, [], ◌∷◌, ◌++◌, Some, refl, sym, ap, ◌∙◌, arith}
use Rattle.std.proofs.lemmas.Bool.{false≢true}
use Rattle.std.proofs.lemmas.Cmp.{nat_cmp_total, nat_list_cmp_total, then_total, on_total, upto, tied_itself}
use Rattle.std.proofs.lemmas.List.Elements.{All-nil, All-cons, All-append, All-weaker, Contains-append_left, Contains-append_right}
use Rattle.std.specs.Cmp.{IsTotalOrder, ranked}
use Rattle.std.specs.Cmp.Lexicographic.{slice_cmp}
use Rattle.std.specs.declared.cmp.Ordering.{Ordering}
use Rattle.std.specs.declared.cmp.Ordering.TheVariants.{Less, Equal, Greater}
use Rattle.std.specs.Ordering.{nat_cmp, is_lt, is_gt, ordering_then, ordering_reverse}
use Rattle.mm_plain.specs.declared.over.Over.{Over}
use Rattle.mm_plain.specs.Notes.{note_cmp, IsLeast}

-- ---- the order

note_cmp_total : IsTotalOrder note_cmp
unfolding note_cmp
note_cmp_total = then_total (on_total (λ note. note.path) nat_list_cmp_total) (on_total (λ note. note.length) nat_cmp_total)

both_equal : (a b : Ordering) → ordering_then a b ≡ Equal → (a ≡ Equal) × (b ≡ Equal)
both_equal Less b h = cc
both_equal Equal b h = (refl, h)
both_equal Greater b h = cc

numbers_equal : (m n : ℕ) → nat_cmp m n ≡ Equal → m ≡ n
numbers_equal m n h = ranked m n Equal (sym h)

bytes_equal : (xs ys : List ℕ) → slice_cmp nat_cmp xs ys ≡ Equal → xs ≡ ys
bytes_equal [] [] h = refl
bytes_equal [] (y ∷ ys) h = cc
bytes_equal (x ∷ xs) [] h = cc
bytes_equal (x ∷ xs) (y ∷ ys) h =
    let parts = both_equal (nat_cmp x y) (slice_cmp nat_cmp xs ys) h in
    λ i. numbers_equal x y parts.0 i ∷ bytes_equal xs ys parts.1 i

-- notes that compare equal are one
notes_equal : (a b : Over) → note_cmp a b ≡ Equal → (a.path ≡ b.path) × (a.length ≡ b.length)
unfolding note_cmp
notes_equal a b h =
    let parts = both_equal (slice_cmp nat_cmp a.path b.path) (nat_cmp a.length b.length) h in
    (bytes_equal a.path b.path parts.0, numbers_equal a.length b.length parts.1)

level : (r s : Ordering) → r ≡ ordering_reverse s → r ≢ Less → s ≢ Less → r ≡ Equal
level Less s turn first second = absurd (first refl)
level Equal s turn first second = refl
level Greater Less turn first second = absurd (second refl)
level Greater Equal turn first second = cc
level Greater Greater turn first second = cc

-- two notes of which neither is before the other are one
pub one_note : (a b : Over) → note_cmp a b ≢ Less → note_cmp b a ≢ Less → (a.path ≡ b.path) × (a.length ≡ b.length)
one_note a b first second = notes_equal a b (level (note_cmp a b) (note_cmp b a) (note_cmp_total.antisymm a b) first second)

past : (r s : Ordering) → r ≡ ordering_reverse s → s ≢ Less → is_gt r ≡ false
past r Less turn not_less = absurd (not_less refl)
past r Equal turn not_less = ap is_gt turn
past r Greater turn not_less = ap is_gt turn

not_past : (r s : Ordering) → r ≡ ordering_reverse s → is_gt r ≡ false → s ≢ Less
not_past r s turn h less = false≢true (sym h ∙ ap is_gt (turn ∙ ap ordering_reverse less))

-- what is not before b is not before a, where b is not
not_before : (a b c : Over) → note_cmp c b ≢ Less → note_cmp b a ≢ Less → note_cmp c a ≢ Less
not_before a b c high low =
    let turned : (x y : Over) → note_cmp x y ≡ ordering_reverse (note_cmp y x) = note_cmp_total.antisymm in
    not_past (note_cmp a c) (note_cmp c a) (turned a c)
    (upto note_cmp_total a b c (past (note_cmp a b) (note_cmp b a) (turned a b) low) (past (note_cmp b c) (note_cmp c b) (turned b c) high))

-- ---- the least

-- a note is the least of itself alone
pub least_one : (note : Over) → IsLeast (note ∷ []) (Some note)
least_one note = (
  (0, omega arith, refl),
  All-cons (λ other. note_cmp other note ≢ Less) note [] (λ less. false≢true (ap is_lt (sym (tied_itself note_cmp_total note) ∙ less))) (All-nil (λ other. note_cmp other note ≢ Less)),
)

module _ (xs ys : List Over) (a b : Over) (first : IsLeast xs (Some a)) (second : IsLeast ys (Some b)) where
  keeps_first : note_cmp b a ≢ Less → IsLeast (xs ++ ys) (Some a)
  keeps_first low =
      let NotBefore : Over → Type 0 = λ note. note_cmp note a ≢ Less in (
        Contains-append_left xs ys a first.0,
        All-append NotBefore xs ys first.1 (All-weaker (λ note. note_cmp note b ≢ Less) NotBefore (λ note high. not_before a b note high low) ys second.1),
      )

  takes_second : note_cmp a b ≢ Less → IsLeast (xs ++ ys) (Some b)
  takes_second low =
      let NotBefore : Over → Type 0 = λ note. note_cmp note b ≢ Less in (
        Contains-append_right xs ys b second.0,
        All-append NotBefore xs ys (All-weaker (λ note. note_cmp note a ≢ Less) NotBefore (λ note high. not_before b a note high low) xs first.1) second.1,
      )

  -- by what a comparison of the two answers
  pub least_first : (o : Ordering) → o ≡ note_cmp b a → is_lt o ≡ false → IsLeast (xs ++ ys) (Some a)
  least_first o is not_less = keeps_first (λ less. false≢true (sym not_less ∙ ap is_lt (is ∙ less)))

  pub least_second : (o : Ordering) → o ≡ note_cmp b a → is_lt o ≡ true → IsLeast (xs ++ ys) (Some b)
  least_second Less is less = takes_second (λ other. false≢true (ap is_gt (sym other ∙ note_cmp_total.antisymm a b ∙ ap ordering_reverse (sym is))))
  least_second Equal is less = absurd (false≢true less)
  least_second Greater is less = absurd (false≢true less)
