-- What is read is object text, object text is read, and the number of the line that does not fit is that of the first at fault.
use Rattle.std.proofs.Common.{◌≡◌, ℕ, ◌+◌, Bool, true, List, [], ◌∷◌, ◌++◌, length, map, Option, Some, None, Result, Ok, Err, refl, ap, sym, ◌∙◌, arith, append-nil}
use Rattle.std.specs.List.{join_with_byte}
use Rattle.mm_objects.specs.declared.objects.Objects.{Objects}
use Rattle.mm_objects.specs.declared.progress.Progress.{Progress}
use Rattle.mm_objects.specs.declared.progress.Progress.TheVariants as at
use Rattle.mm_objects.specs.ObjectText.{Word, lines_of, written, objects_text}
use Rattle.mm_objects.specs.ObjectForms.{AreObjects}
use Rattle.mm_objects.specs.LineReading.{◌>>=◌}
use Rattle.mm_objects.specs.TextReading.{next_in, run_in, words_in, at_line, then, follow, done_of, if_none, text_in}
use Rattle.mm_objects.proofs.ReadTools.{some_same, bind_some}
use Rattle.mm_objects.proofs.SoundSteps.{AreDone, run-sound}
use Rattle.mm_objects.proofs.AgainSteps.{run-again}
use Rattle.mm_objects.proofs.CleanLemmas.{lines-clean}
use Rattle.mm_objects.proofs.SplitLemmas.{cut_at, ended, cut-is, cut-text, cut-lines, written-cut}

-- ---- following lines

pub follow-run : (several : Bool) (n : ℕ) (p q : Progress) (lines : List Word) → run_in several p (map words_in lines) ≡ Some q → follow several n p lines ≡ Ok q
unfolding follow run_in
follow-run several n p q [] h = ap Ok (some_same p q h)
follow-run several n p q (l ∷ ls) h =
    let b = bind_some (next_in several p (words_in l)) _ q h in
    ap (λ o. then (at_line n o) (λ next. follow several (n + 1) next ls)) b.1 ∙ follow-run several (n + 1) b.0 q ls b.2

-- where following ends
pub record Stops (several : Bool) (n : ℕ) (p : Progress) (lines : List Word) (m : ℕ) : Type 0 where
  pub prefix : List Word
  pub line : Word
  pub behind : List Word
  pub is : lines ≡ prefix ++ line ∷ behind
  pub number : m ≡ n + length prefix
  pub last : Progress
  pub reads : run_in several p (map words_in prefix) ≡ Some last
  pub fails : next_in several last (words_in line) ≡ None

err_same : {A : Type 0} (r : Result A ℕ) (m n : ℕ) → r ≡ Err m → r ≡ Err n → m ≡ n
err_same r m n g h = cc

ok_same : {A : Type 0} (r : Result A ℕ) (a b : A) → r ≡ Ok a → r ≡ Ok b → a ≡ b
ok_same r a b g h = cc

stops-at : (several : Bool) (n : ℕ) (p : Progress) (l : Word) (ls : List Word) (m : ℕ) (o : Option Progress) → next_in several p (words_in l) ≡ o
    → ((q : Progress) → follow several (n + 1) q ls ≡ Err m → Stops several (n + 1) q ls m)
    → then (at_line n o) (λ next. follow several (n + 1) next ls) ≡ Err m → Stops several n p (l ∷ ls) m
unfolding run_in
stops-at several n p l ls m None is others h = record { prefix = []; line = l; behind = ls; is = refl; number = omega (arith, err_same (Err n) n m refl h); last = p; reads = refl; fails = is }
stops-at several n p l ls m (Some q) is others h =
    let s = others q h in
    record {
      prefix = l ∷ s.prefix;
      line = s.line;
      behind = s.behind;
      is = ap (λ k. l ∷ k) s.is;
      number = omega (arith, s.number);
      last = s.last;
      reads = ap (λ o. o >>= λ q. run_in several q (map words_in s.prefix)) is ∙ s.reads;
      fails = s.fails;
    }

pub follow-stops : (several : Bool) (n : ℕ) (p : Progress) (lines : List Word) (m : ℕ) → follow several n p lines ≡ Err m → Stops several n p lines m
unfolding follow
follow-stops several n p [] m h = absurd (cc)
follow-stops several n p (l ∷ ls) m h = stops-at several n p l ls m (next_in several p (words_in l)) refl (λ q e. follow-stops several (n + 1) q ls m e) h

runs-by : (several : Bool) (n : ℕ) (p q : Progress) (l : Word) (ls : List Word) (o : Option Progress) → next_in several p (words_in l) ≡ o
    → ((r : Progress) → follow several (n + 1) r ls ≡ Ok q → run_in several r (map words_in ls) ≡ Some q)
    → then (at_line n o) (λ next. follow several (n + 1) next ls) ≡ Ok q → run_in several p (map words_in (l ∷ ls)) ≡ Some q
unfolding run_in
runs-by several n p q l ls None is others h = absurd (cc)
runs-by several n p q l ls (Some r) is others h = ap (λ o. o >>= λ q. run_in several q (map words_in ls)) is ∙ others r h

pub follow-runs : (several : Bool) (n : ℕ) (p q : Progress) (lines : List Word) → follow several n p lines ≡ Ok q → run_in several p (map words_in lines) ≡ Some q
unfolding follow run_in
follow-runs several n p q [] h = ap Some (ok_same (Ok p) p q refl h)
follow-runs several n p q (l ∷ ls) h = runs-by several n p q l ls (next_in several p (words_in l)) refl (λ r e. follow-runs several (n + 1) r q ls e) h

-- ---- whole texts

-- what is done, with nothing behind it
pub record Finished (p : Progress) (last : Word) (o : Objects) : Type 0 where
  pub nothing : last ≡ []
  pub done : p ≡ at.Done o

done_of-is : (p : Progress) (o : Objects) → done_of p ≡ Some o → p ≡ at.Done o
done_of-is at.Start o h = absurd (cc)
done_of-is at.Headed o h = absurd (cc)
done_of-is (at.Main main) o h = absurd (cc)
done_of-is (at.«Unit» u) o h = absurd (cc)
done_of-is (at.Code c) o h = absurd (cc)
done_of-is (at.Block c instrs) o h = absurd (cc)
done_of-is (at.Done d) o h = ap at.Done (some_same d o h)

finished : (n : ℕ) (p : Progress) (last : Word) (o : Objects) → at_line n (if_none last (done_of p)) ≡ Ok o → Finished p last o
finished n p [] o h = record { nothing = refl; done = done_of-is p o (reported (done_of p) h) }
  where
    reported : (d : Option Objects) → at_line n d ≡ Ok o → d ≡ Some o
    reported None h = absurd (cc)
    reported (Some d) h = ap Some (ok_same (Ok d) d o refl h)
finished n p (c ∷ cs) o h = absurd (cc)

-- the parts of a text that is read
pub record IsRead (several : Bool) (lines : List Word) (last : Word) (o : Objects) : Type 0 where
  pub nothing : last ≡ []
  pub reads : run_in several at.Start (map words_in lines) ≡ Some (at.Done o)

then_ok : {A B : Type 0} (r : Result A ℕ) (go : A → Result B ℕ) (b : B) → then r go ≡ Ok b → (a : A) × (r ≡ Ok a) × (go a ≡ Ok b)
then_ok (Ok a) go b h = (a, refl, h)
then_ok (Err n) go b h = absurd (cc)

text-reads : (several : Bool) (lines : List Word) (last : Word) (o : Objects) → text_in several lines last ≡ Ok o → IsRead several lines last o
unfolding text_in
text-reads several lines last o h =
    let b = then_ok (follow several 1 at.Start lines) _ o h in
    let f = finished (length lines + 1) b.0 last o b.2 in
    record { nothing = f.nothing; reads = follow-runs several 1 at.Start b.0 lines b.1 ∙ ap Some f.done }

-- what is read is the text of the objects
pub text-sound : (several : Bool) (bytes : List ℕ) (lines : List Word) (last : Word) (o : Objects) → cut_at 10 bytes ≡ lines ++ last ∷ [] → text_in several lines last ≡ Ok o → AreDone several o × (bytes ≡ objects_text o)
unfolding objects_text
text-sound several bytes lines last o cut h =
    let r = text-reads several lines last o h in
    let s = run-sound several at.Start (map words_in lines) (at.Done o) tt r.reads in
    (s.0, cut-is bytes lines last cut ∙ ap (λ l. ended lines ++ l) r.nothing ∙ append-nil (ended lines) ∙ sym (written-cut lines) ∙ ap written (sym s.1))

pub last-same : {A : Type 0} (xs ys : List A) (x y : A) → xs ++ x ∷ [] ≡ ys ++ y ∷ [] → (xs ≡ ys) × (x ≡ y)
last-same [] [] x y h = (refl, cc)
last-same [] (z ∷ []) x y h = absurd (cc)
last-same [] (z ∷ w ∷ ws) x y h = absurd (cc)
last-same (z ∷ []) [] x y h = absurd (cc)
last-same (z ∷ w ∷ ws) [] x y h = absurd (cc)
last-same (z ∷ zs) (w ∷ ws) x y h =
    let tails : zs ++ x ∷ [] ≡ ws ++ y ∷ [] = cc in
    let heads : z ≡ w = cc in
    let p = last-same zs ws x y tails in
    (λ i. heads i ∷ p.0 i, p.1)

-- the text of objects is read
pub text-again : (several : Bool) (bytes : List ℕ) (lines : List Word) (last : Word) (o : Objects) → cut_at 10 bytes ≡ lines ++ last ∷ [] → AreDone several o → bytes ≡ objects_text o → text_in several lines last ≡ Ok o
unfolding text_in
text-again several bytes lines last o cut are is =
    let same = last-same lines (map (join_with_byte 32) (lines_of o)) last [] (sym cut ∙ ap (cut_at 10) is ∙ cut-text o are.are) in
    let words : map words_in lines ≡ lines_of o = ap (map words_in) same.0 ∙ cut-lines (lines_of o) (lines-clean o are.are) in
    let reads : run_in several at.Start (map words_in lines) ≡ Some (at.Done o) = ap (run_in several at.Start) words ∙ run-again several o are in
    rw (follow-run several 1 at.Start (at.Done o) lines reads, same.1) refl

-- ---- one spelling

-- objects with one text are the same
pub one_text : (a b : Objects) → AreObjects a → AreObjects b → objects_text a ≡ objects_text b → a ≡ b
one_text a b x y same =
    let lines = map (join_with_byte 32) (lines_of a) in
    let cut = cut-text a x in
    let left = text-again true (objects_text a) lines [] a cut (record { are = x; one_unit = λ h. absurd (cc) }) refl in
    let right = text-again true (objects_text a) lines [] b cut (record { are = y; one_unit = λ h. absurd (cc) }) same in
    ok_same (text_in true lines []) a b left right
