-- Lemmas on following lines.
use Rattle.std.proofs.Common.{◌≡◌, ℕ, ◌<◌, ◌≤◌, ◌+◌, Bool, List, length, drop, get_or, Bor, Result, Ok, Err, add-one, drop-cons, refl, ap, ◌∙◌}
use Rattle.std.proofs.lemmas.List.{drop_all}
use Rattle.mm_objects.specs.declared.fault.ObjFault.{ObjFault}
use Rattle.mm_objects.specs.declared.fault.ObjFault.TheVariants as faults
use Rattle.mm_objects.specs.declared.progress.Progress.{Progress}
use Rattle.mm_objects.specs.Given.{GivesAt}
use Rattle.mm_objects.specs.ObjectText.{Word}
use Rattle.mm_objects.specs.TextReading.{next_in, words_in, at_line, then, follow, done_of, if_none, text_in}
use Rattle.mm_objects.specs.declared.progress.Progress.TheVariants as at
use Rattle.mm_objects.proofs.PieceLemmas.{seen}

-- the first of the lines that are left is read, and then the others
pub follow-here : (several : Bool) (n : ℕ) (p : Progress) (ls : List (Bor Word)) (i : ℕ) (d : Bor Word) → i < length ls
    → follow several n p (seen (drop i ls)) ≡ then (at_line n (next_in several p (words_in (get_or ls i d).now))) (λ next. follow several (n + 1) next (seen (drop (i + 1) ls)))
unfolding follow
follow-here several n p ls i d within = rw (drop-cons ls i d within, add-one i) refl

pub follow-step : (several : Bool) (whole : Result Progress ℕ) (n : ℕ) (p q : Progress) (ls : List (Bor Word)) (i : ℕ) (d : Bor Word) → i < length ls
    → whole ≡ follow several n p (seen (drop i ls)) → at_line n (next_in several p (words_in (get_or ls i d).now)) ≡ Ok q → whole ≡ follow several (n + 1) q (seen (drop (i + 1) ls))
follow-step several whole n p q ls i d within so_far reads =
    so_far ∙ follow-here several n p ls i d within ∙ ap (λ r. then r (λ next. follow several (n + 1) next (seen (drop (i + 1) ls)))) reads

pub follow-stop : (several : Bool) (whole : Result Progress ℕ) (n m : ℕ) (p : Progress) (ls : List (Bor Word)) (i : ℕ) (d : Bor Word) → i < length ls
    → whole ≡ follow several n p (seen (drop i ls)) → at_line n (next_in several p (words_in (get_or ls i d).now)) ≡ Err m → whole ≡ Err m
follow-stop several whole n m p ls i d within so_far reads =
    so_far ∙ follow-here several n p ls i d within ∙ ap (λ r. then r (λ next. follow several (n + 1) next (seen (drop (i + 1) ls)))) reads

pub follow-end : (several : Bool) (whole : Result Progress ℕ) (n : ℕ) (p : Progress) (ls : List (Bor Word)) (i : ℕ) → length ls ≤ i
    → whole ≡ follow several n p (seen (drop i ls)) → whole ≡ Ok p
unfolding follow
follow-end several whole n p ls i past so_far = so_far ∙ rw (drop_all i ls past) refl

-- an error of a line is one of all lines
pub stopped_at : {X Y : Type 0} (r : Result X ObjFault) (e : ObjFault) (line : Result Y ℕ) (whole : Result X ℕ) → r ≡ Err e → GivesAt {X = Y} (Err e) line → ((n : ℕ) → line ≡ Err n → whole ≡ Err n) → GivesAt r whole
stopped_at r (faults.BadObjects n) line whole is given then' = rw is (then' n given)
stopped_at r faults.NoMemory line whole is given then' = rw is tt

pub text-stop : (several : Bool) (lines : List Word) (last : Word) (n : ℕ) → follow several 1 at.Start lines ≡ Err n → text_in several lines last ≡ Err n
unfolding text_in
text-stop several lines last n h = rw h refl

pub text-end : (several : Bool) (lines : List Word) (last : Word) (p : Progress) (n : ℕ) → follow several 1 at.Start lines ≡ Ok p → n ≡ length lines + 1 → text_in several lines last ≡ at_line n (if_none last (done_of p))
unfolding text_in
text-end several lines last p n h is = rw (h, ← is) refl
