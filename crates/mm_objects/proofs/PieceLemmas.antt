-- Lemmas on lists of words.
use Rattle.std.proofs.Common.{◌≡◌, ℕ, suc, ◌<◌, ◌≤◌, ◌+◌, List, [], ◌∷◌, ◌++◌, length, map, drop, get_or, Bor, Option, Some, None, Result, Err, add-one, drop-cons, append-nil, refl, ap, sym, ◌∙◌, arith, append_assoc}
use Rattle.std.proofs.lemmas.List.{drop_all}
use Rattle.mm_objects.specs.declared.line_error.LineError.{LineError}
use Rattle.mm_objects.specs.declared.line_error.LineError.TheVariants.{Unfit, NoMemory}
use Rattle.mm_objects.specs.Given.{Gives}
use Rattle.mm_objects.specs.ObjectText.{Word, Line}
use Rattle.mm_objects.specs.LineReading.{◌>>=◌, last_two, before, all_in}

abbrev pub seen : List (Bor Word) → Line
seen words = map (λ w. w.now) words

before-is : (x : Word) (o : Option (Line × Word × Word)) (xs : Line) (a b : Word) → o ≡ Some (xs, a, b) → before x o ≡ Some (x ∷ xs, a, b)
before-is x o xs a b h = rw h refl

last_two-cons : (x y : Word) (ys : Line) (a b : Word) → last_two (y ∷ (ys ++ a ∷ b ∷ [])) ≡ Some (y ∷ ys, a, b) → last_two (x ∷ y ∷ (ys ++ a ∷ b ∷ [])) ≡ Some (x ∷ y ∷ ys, a, b)
unfolding last_two
last_two-cons x y [] a b h = before-is x (last_two (y ∷ a ∷ b ∷ [])) (y ∷ []) a b h
last_two-cons x y (z ∷ zs) a b h = before-is x (last_two (y ∷ z ∷ (zs ++ a ∷ b ∷ []))) (y ∷ z ∷ zs) a b h

pub last_two-at : (xs : Line) (a b : Word) → last_two (xs ++ a ∷ b ∷ []) ≡ Some (xs, a, b)
unfolding last_two
last_two-at [] a b = refl
last_two-at (x ∷ []) a b = refl
last_two-at (x ∷ y ∷ xs) a b = last_two-cons x y xs a b (last_two-at (y ∷ xs) a b)

pub last_two-none : (ws : Line) → length ws < 2 → last_two ws ≡ None
unfolding last_two
last_two-none [] h = refl
last_two-none (a ∷ []) h = refl
last_two-none (a ∷ b ∷ ws) h = absurd (omega arith)

seen-append : (xs ys : List (Bor Word)) → seen (xs ++ ys) ≡ seen xs ++ seen ys
seen-append [] ys = refl
seen-append (x ∷ xs) ys = ap (λ l. x.now ∷ l) (seen-append xs ys)

pub seen-length : (xs : List (Bor Word)) → length (seen xs) ≡ length xs
seen-length [] = refl
seen-length (x ∷ xs) = ap suc (seen-length xs)

-- the last two of references are those of what they refer to
pub last_two-seen : (ws fs gs : List (Bor Word)) (mark last : Bor Word) → ws ≡ fs ++ last ∷ [] → fs ≡ gs ++ mark ∷ [] → last_two (seen ws) ≡ Some (seen gs, mark.now, last.now)
last_two-seen ws fs gs mark last is then' =
    let whole : ws ≡ gs ++ mark ∷ last ∷ [] = is ∙ ap (λ l. l ++ last ∷ []) then' ∙ append_assoc gs (mark ∷ []) (last ∷ []) in
    ap (λ l. last_two (seen l)) whole ∙ ap last_two (seen-append gs (mark ∷ last ∷ [])) ∙ last_two-at (seen gs) mark.now last.now

pub last_two-short : (ws : List (Bor Word)) → length ws < 2 → last_two (seen ws) ≡ None
last_two-short ws h = last_two-none (seen ws) (omega (arith, seen-length ws))

-- ---- a thing for each word

-- what a loop has made, and then what is made of the others
abbrev pub with_prefix : {A : Type 0} → List A → Option (List A) → Option (List A)
with_prefix xs o = o >>= λ ys. Some (xs ++ ys)

all_in-here : {A : Type 0} (read : Word → Option A) (ws : List (Bor Word)) (i : ℕ) (d : Bor Word) → i < length ws → all_in read (seen (drop i ws)) ≡ (read (get_or ws i d).now >>= λ a. all_in read (seen (drop (i + 1) ws)) >>= λ others. Some (a ∷ others))
unfolding all_in
all_in-here read ws i d within = rw (drop-cons ws i d within, add-one) refl

prefix-more : {A : Type 0} (xs : List A) (a : A) (o : Option (List A)) → with_prefix xs (o >>= λ others. Some (a ∷ others)) ≡ with_prefix (xs ++ a ∷ []) o
prefix-more xs a None = refl
prefix-more xs a (Some ys) = ap Some (sym (append_assoc xs (a ∷ []) ys))

-- what such a loop keeps after one more turn
pub all_in-step : {A : Type 0} (read : Word → Option A) (ws : List (Bor Word)) (i : ℕ) (d : Bor Word) (a : A) (xs more : List A) (whole : Option (List A))
    → whole ≡ with_prefix xs (all_in read (seen (drop i ws))) → i < length ws → read (get_or ws i d).now ≡ Some a → more ≡ xs ++ a ∷ []
    → whole ≡ with_prefix more (all_in read (seen (drop (i + 1) ws)))
all_in-step read ws i d a xs more whole so_far within reads grown =
    so_far ∙ ap (with_prefix xs) (all_in-here read ws i d within ∙ ap (λ o. o >>= λ a. all_in read (seen (drop (i + 1) ws)) >>= λ others. Some (a ∷ others)) reads) ∙ prefix-more xs a (all_in read (seen (drop (i + 1) ws))) ∙ ap (λ ys. with_prefix ys (all_in read (seen (drop (i + 1) ws)))) (sym grown)

-- where a word is not read, nothing is
pub all_in-stop : {A : Type 0} (read : Word → Option A) (ws : List (Bor Word)) (i : ℕ) (d : Bor Word) (xs : List A) (whole : Option (List A))
    → whole ≡ with_prefix xs (all_in read (seen (drop i ws))) → i < length ws → read (get_or ws i d).now ≡ None → whole ≡ None
all_in-stop read ws i d xs whole so_far within reads =
    so_far ∙ ap (with_prefix xs) (all_in-here read ws i d within ∙ ap (λ o. o >>= λ a. all_in read (seen (drop (i + 1) ws)) >>= λ others. Some (a ∷ others)) reads)

pub all_in-end : {A : Type 0} (read : Word → Option A) (ws : List (Bor Word)) (i : ℕ) (xs : List A) (whole : Option (List A))
    → whole ≡ with_prefix xs (all_in read (seen (drop i ws))) → length ws ≤ i → whole ≡ Some xs
unfolding all_in
all_in-end read ws i xs whole so_far past = so_far ∙ rw (drop_all i ws past, append-nil) refl

-- an error of a part is one of the whole
pub stopped : {X Y : Type 0} (r : Result X LineError) (e : LineError) (one : Option Y) (whole : Option X) → r ≡ Err e → Gives {X = Y} (Err e) one → (one ≡ None → whole ≡ None) → Gives r whole
stopped r Unfit one whole is given then' = rw is (then' given)
stopped r NoMemory one whole is given then' = rw is tt
