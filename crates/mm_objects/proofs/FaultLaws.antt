-- Which line is to blame where bytes are no object text.
use Rattle.std.proofs.Common.{◌≡◌, ◌≢◌, ℕ, ◌+◌, Bool, true, false, cond, eqb, List, [], ◌∷◌, ◌++◌, length, map, take, All, Option, Some, None, Result, Ok, Err, IfOk, refl, ap, sym, ◌∙◌, subst, arith, append_assoc, append-nil, length-append}
use Rattle.std.specs.List.{join_with_byte, onto_first}
use Rattle.std.proofs.Math.Seq.{take-append_seam}
use Rattle.std.proofs.lemmas.Bool.{eqb-false, eqb-true, false_from_ne_true}
use Rattle.std.proofs.lemmas.Grind.{flat_map-append}
use Rattle.std.proofs.lemmas.List.Elements.{All-nil, All-cons, All-head, All-tail}
use Rattle.mm_objects.specs.declared.objects.Objects.{Objects}
use Rattle.mm_objects.specs.declared.fault.ObjFault.{ObjFault}
use Rattle.mm_objects.specs.declared.fault.ObjFault.TheVariants as faults
use Rattle.mm_objects.specs.declared.progress.Progress.{Progress}
use Rattle.mm_objects.specs.declared.progress.Progress.TheVariants as at
use Rattle.mm_objects.specs.ObjectText.{Word, line_text, lines_of, written, objects_text}
use Rattle.mm_objects.specs.ObjectForms.{IsUnitText, CanBegin, IsWithinLine, AreFirstLines, IsBadAt}
use Rattle.mm_objects.specs.Given.{GivesAt}
use Rattle.mm_objects.specs.LineReading.{◌>>=◌}
use Rattle.mm_objects.specs.TextReading.{next_in, run_in, words_in, at_line, then, follow, done_of, if_none, text_in}
use Rattle.mm_objects.proofs.AgainSteps.{run-append}
use Rattle.mm_objects.proofs.GoingOn.{run-first_of, run-not_first}
use Rattle.mm_objects.proofs.CleanLemmas.{lines-clean}
use Rattle.mm_objects.proofs.SplitLemmas.{HasNo, cut_at, ended, cut-ended, cut-is, cut-text, cut-lines, written-cut}
use Rattle.mm_objects.proofs.TextLaws.{Stops, follow-stops, follow-runs, text-sound, text-again, last-same}

-- ---- parts

add-first : (c x : ℕ) (parts : List Word) → eqb x c ≡ false → All (HasNo c) parts → All (HasNo c) (onto_first x parts)
add-first c x [] apart all = All-cons (HasNo c) (x ∷ []) [] (All-cons (λ b. eqb b c ≡ false) x [] apart (All-nil (λ b. eqb b c ≡ false))) (All-nil (HasNo c))
add-first c x (p ∷ ps) apart all = All-cons (HasNo c) (x ∷ p) ps (All-cons (λ b. eqb b c ≡ false) x p apart (All-head (HasNo c) p ps all)) (All-tail (HasNo c) p ps all)

cut-by : (c x : ℕ) (parts : List Word) (b : Bool) → eqb x c ≡ b → All (HasNo c) parts → All (HasNo c) (cond b ([] ∷ parts) (onto_first x parts))
cut-by c x parts true is all = All-cons (HasNo c) [] parts (All-nil (λ b. eqb b c ≡ false)) all
cut-by c x parts false is all = add-first c x parts is all

-- the byte at which a list is cut stands in no part
cut-parts : (c : ℕ) (bytes : List ℕ) → All (HasNo c) (cut_at c bytes)
cut-parts c [] = All-cons (HasNo c) [] [] (All-nil (λ b. eqb b c ≡ false)) (All-nil (HasNo c))
cut-parts c (b ∷ bs) = cut-by c b (cut_at c bs) (eqb b c) refl (cut-parts c bs)

within : (l : Word) → HasNo 10 l → IsWithinLine l
within [] h = All-nil (λ b. b ≡ 10 → ⊥)
within (b ∷ bs) h = All-cons (λ b. b ≡ 10 → ⊥) b bs (eqb-false b 10 (All-head (λ b. eqb b 10 ≡ false) b bs h)) (within bs (All-tail (λ b. eqb b 10 ≡ false) b bs h))

has_no : (l : Word) → IsWithinLine l → HasNo 10 l
has_no [] h = All-nil (λ b. eqb b 10 ≡ false)
has_no (b ∷ bs) h =
    let apart = All-head (λ b. b ≡ 10 → ⊥) b bs h in
    All-cons (λ b. eqb b 10 ≡ false) b bs (false_from_ne_true (eqb b 10) (λ e. absurd (apart (eqb-true b 10 e)))) (has_no bs (All-tail (λ b. b ≡ 10 → ⊥) b bs h))

all-within : (ls : List Word) → All (HasNo 10) ls → All IsWithinLine ls
all-within [] all = All-nil IsWithinLine
all-within (l ∷ ls) all = All-cons IsWithinLine l ls (within l (All-head (HasNo 10) l ls all)) (all-within ls (All-tail (HasNo 10) l ls all))

all-has_no : (ls : List Word) → All IsWithinLine ls → All (HasNo 10) ls
all-has_no [] all = All-nil (HasNo 10)
all-has_no (l ∷ ls) all = All-cons (HasNo 10) l ls (has_no l (All-head IsWithinLine l ls all)) (all-has_no ls (All-tail IsWithinLine l ls all))

all-prefix : {A : Type 0} (P : A → Type 0) (xs ys : List A) → All P (xs ++ ys) → All P xs
all-prefix P [] ys all = All-nil P
all-prefix P (x ∷ xs) ys all = All-cons P x xs (All-head P x (xs ++ ys) all) (all-prefix P xs ys (All-tail P x (xs ++ ys) all))

-- a list that is not empty has a last element
pub record HasLast (parts : List Word) : Type 0 where
  pub prefix : List Word
  pub last : Word
  pub is : parts ≡ prefix ++ last ∷ []

has-last : (p : Word) (ps : List Word) → HasLast (p ∷ ps)
has-last p [] = record { prefix = []; last = p; is = refl }
has-last p (q ∷ qs) = let h = has-last q qs in record { prefix = p ∷ h.prefix; last = h.last; is = ap (λ l. p ∷ l) h.is }

pub last-of : (parts : List Word) → parts ≢ [] → HasLast parts
last-of [] some = absurd (some refl)
last-of (p ∷ ps) some = has-last p ps

first-some : (x : ℕ) (parts : List Word) → onto_first x parts ≢ []
first-some x [] = λ h. absurd (cc)
first-some x (p ∷ ps) = λ h. absurd (cc)

cut-some-by : (x : ℕ) (parts : List Word) (b : Bool) → cond b ([] ∷ parts) (onto_first x parts) ≢ []
cut-some-by x parts true = λ h. absurd (cc)
cut-some-by x parts false = first-some x parts

pub cut-some : (c : ℕ) (bytes : List ℕ) → cut_at c bytes ≢ []
cut-some c [] = λ h. absurd (cc)
cut-some c (b ∷ bs) = cut-some-by b (cut_at c bs) (eqb b c)

map-append : {A B : Type 0} (f : A → B) (xs ys : List A) → map f (xs ++ ys) ≡ map f xs ++ map f ys
map-append f [] ys = refl
map-append f (x ∷ xs) ys = ap (λ l. f x ∷ l) (map-append f xs ys)

-- ---- fronts

-- lines that are read begin some text
can-begin : (lines : List Word) (p : Progress) → run_in false at.Start (map words_in lines) ≡ Some p → CanBegin (ended lines)
unfolding objects_text
can-begin lines p reads =
    let f = run-first_of false (map words_in lines) p reads in
    record {
      behind = written f.rest;
      objects = f.objects;
      text = record {
        text = record {
          are = f.are.are;
          is = ap (λ prefix. prefix ++ written f.rest) (sym (written-cut lines)) ∙ sym (flat_map-append line_text (map words_in lines) f.rest) ∙ ap written (sym f.is);
        };
        one_unit = f.are.one_unit refl;
      };
    }

-- lines with which some text begins are read
begins-read : (lines : List Word) → All (HasNo 10) lines → CanBegin (ended lines) → (p : Progress) × (run_in false at.Start (map words_in lines) ≡ Some p)
begins-read lines unbroken begins =
    let o = begins.objects in
    let are = begins.text.text.are in
    let h = last-of (cut_at 10 begins.behind) (cut-some 10 begins.behind) in
    let parts : (lines ++ h.prefix) ++ h.last ∷ [] ≡ map (join_with_byte 32) (lines_of o) ++ [] ∷ [] =
    append_assoc lines h.prefix (h.last ∷ []) ∙ ap (λ l. lines ++ l) (sym h.is) ∙ sym (cut-ended lines begins.behind unbroken) ∙ ap (cut_at 10) begins.text.text.is ∙ cut-text o are in
    let same = last-same (lines ++ h.prefix) (map (join_with_byte 32) (lines_of o)) h.last [] parts in
    let words : lines_of o ≡ map words_in lines ++ map words_in h.prefix = sym (cut-lines (lines_of o) (lines-clean o are)) ∙ ap (map words_in) (sym same.0) ∙ map-append words_in lines h.prefix in
    run-not_first false (map words_in lines) (map words_in h.prefix) o (record { are = are; one_unit = λ one. begins.text.one_unit }) words

-- ---- the line at fault

-- lines up to the one that does not fit, which is missing where there is none
pub record Blames (lines : List Word) (m : ℕ) : Type 0 where
  pub prefix : List Word
  pub behind : List Word
  pub is : lines ≡ prefix ++ behind
  pub number : m ≡ length prefix + 1
  pub last : Progress
  pub reads : run_in false at.Start (map words_in prefix) ≡ Some last
  pub fails : (line : Word) (others : List Word) → behind ≡ line ∷ others → next_in false last (words_in line) ≡ None

from-stops : (lines : List Word) (m : ℕ) → Stops false 1 at.Start lines m → Blames lines m
from-stops lines m s = record {
  prefix = s.prefix;
  behind = s.line ∷ s.behind;
  is = s.is;
  number = omega (arith, s.number);
  last = s.last;
  reads = s.reads;
  fails = λ line others same. let e : s.line ≡ line = cc in subst (λ l. next_in false s.last (words_in l) ≡ None) e s.fails;
}

at-end : (n m : ℕ) (o : Option Objects) → at_line n o ≡ Err m → n ≡ m
at-end n m None h = cc
at-end n m (Some o) h = absurd (cc)

same-number : (n m : ℕ) (go : Progress → Result Objects ℕ) → then (Err n) go ≡ Err m → n ≡ m
same-number n m go h = cc

blames-by : (lines : List Word) (last : Word) (m : ℕ) (r : Result Progress ℕ) → follow false 1 at.Start lines ≡ r → then r (λ p. at_line (length lines + 1) (if_none last (done_of p))) ≡ Err m → Blames lines m
blames-by lines last m (Ok p) is h =
    record {
      prefix = lines;
      behind = [];
      is = sym (append-nil lines);
      number = sym (at-end (length lines + 1) m (if_none last (done_of p)) h);
      last = p;
      reads = follow-runs false 1 at.Start p lines is;
      fails = λ line others same. absurd (cc);
    }
blames-by lines last m (Err n) is h = from-stops lines m (follow-stops false 1 at.Start lines m (is ∙ ap Err (same-number n m (λ p. at_line (length lines + 1) (if_none last (done_of p))) h)))

blames : (lines : List Word) (last : Word) (m : ℕ) → text_in false lines last ≡ Err m → Blames lines m
unfolding text_in
blames lines last m h = blames-by lines last m (follow false 1 at.Start lines) refl h

-- the first lines of bytes are the parts that stand first
first-lines : (m : ℕ) (longer bytes : List ℕ) (first : AreFirstLines m longer bytes) → cut_at 10 bytes ≡ first.lines ++ cut_at 10 first.behind
first-lines m longer bytes first =
    ap (cut_at 10) (first.is ∙ ap (λ l. l ++ first.behind) first.prefix_is) ∙ cut-ended first.lines first.behind (all-has_no first.lines first.within)

same-prefix : {A : Type 0} (xs ys zs ws : List A) → xs ++ ys ≡ zs ++ ws → length xs ≡ length zs → xs ≡ zs
same-prefix xs ys zs ws h l = sym (take-append_seam xs ys) ∙ (λ i. take (l i) (h i)) ∙ take-append_seam zs ws

no-read : (prefix : List Word) (line : Word) (last p : Progress) → run_in false at.Start (map words_in prefix) ≡ Some last → next_in false last (words_in line) ≡ None → run_in false at.Start (map words_in (prefix ++ line ∷ [])) ≡ Some p → ⊥
unfolding run_in
no-read prefix line last p reads fails h =
    let none : run_in false at.Start (map words_in (prefix ++ line ∷ [])) ≡ None =
    ap (run_in false at.Start) (map-append words_in prefix (line ∷ [])) ∙ run-append false at.Start (map words_in prefix) (words_in line ∷ [])
    ∙ ap (λ o. o >>= λ q. run_in false q (words_in line ∷ [])) reads ∙ ap (λ o. o >>= λ q. Some q) fails in
    cc

cannot-by : (lines : List Word) (last : Word) (m : ℕ) (b : Blames lines m) (behind : List Word) → b.behind ≡ behind → (longer bytes : List ℕ) → cut_at 10 bytes ≡ lines ++ last ∷ [] → AreFirstLines m longer bytes → CanBegin longer → ⊥
cannot-by lines last m b [] none longer bytes cut first begins =
    let parts = sym (first-lines m longer bytes first) ∙ cut in
    let h = last-of (cut_at 10 first.behind) (cut-some 10 first.behind) in
    let whole : lines ≡ b.prefix = b.is ∙ ap (λ l. b.prefix ++ l) none ∙ append-nil b.prefix in
    omega (arith, ap length parts, length-append first.lines (cut_at 10 first.behind), length-append lines (last ∷ []), ap length h.is, length-append h.prefix (h.last ∷ []), first.count, b.number, ap length whole)
cannot-by lines last m b (line ∷ others) some longer bytes cut first begins =
    let parts : first.lines ++ cut_at 10 first.behind ≡ (b.prefix ++ line ∷ []) ++ (others ++ last ∷ []) =
    sym (first-lines m longer bytes first) ∙ cut ∙ ap (λ l. l ++ last ∷ []) (b.is ∙ ap (λ l. b.prefix ++ l) some) ∙ append_assoc b.prefix (line ∷ others) (last ∷ []) ∙ sym (append_assoc b.prefix (line ∷ []) (others ++ last ∷ [])) in
    let same = same-prefix first.lines (cut_at 10 first.behind) (b.prefix ++ line ∷ []) (others ++ last ∷ []) parts (first.count ∙ b.number ∙ sym (length-append b.prefix (line ∷ []))) in
    let read = begins-read first.lines (all-has_no first.lines first.within) (subst CanBegin first.prefix_is begins) in
    no-read b.prefix line b.last read.0 b.reads (b.fails line others some) (subst (λ l. run_in false at.Start (map words_in l) ≡ Some read.0) same read.1)

pub bad-at : (bytes : List ℕ) (lines : List Word) (last : Word) (m : ℕ) → cut_at 10 bytes ≡ lines ++ last ∷ [] → text_in false lines last ≡ Err m → IsBadAt m bytes
bad-at bytes lines last m cut h =
    let b = blames lines last m h in
    let no = all-prefix (HasNo 10) b.prefix (b.behind ++ last ∷ []) (subst (All (HasNo 10)) (cut ∙ ap (λ l. l ++ last ∷ []) b.is ∙ append_assoc b.prefix b.behind (last ∷ [])) (cut-parts 10 bytes)) in
    record {
      none = λ o is. let again = text-again false bytes lines last o cut (record { are = is.text.are; one_unit = λ one. is.one_unit }) is.text.is in absurd (cc);
      before = length b.prefix;
      follows = b.number;
      prefix = ended b.prefix;
      lines = record {
        lines = b.prefix;
        behind = ended b.behind ++ last;
        count = refl;
        within = all-within b.prefix no;
        prefix_is = refl;
        is = cut-is bytes lines last cut ∙ ap (λ l. ended l ++ last) b.is ∙ ap (λ l. l ++ last) (flat_map-append (λ line. line ++ 10 ∷ []) b.prefix b.behind) ∙ append_assoc (ended b.prefix) (ended b.behind) last;
      };
      can = can-begin b.prefix b.last b.reads;
      cannot = λ longer first begins. cannot-by lines last m b b.behind refl longer bytes cut first begins;
    }

-- ---- what a reader returned

pub given-ok : (bytes : List ℕ) (r : Result Objects ObjFault) (lines : List Word) (last : Word) → cut_at 10 bytes ≡ lines ++ last ∷ [] → GivesAt r (text_in false lines last) → IfOk r (IsUnitText bytes)
given-ok bytes (Ok o) lines last cut given =
    let s = text-sound false bytes lines last o cut given in
    record { text = record { are = s.0.are; is = s.1 }; one_unit = s.0.one_unit refl }
given-ok bytes (Err e) lines last cut given = tt

pub given-bad : (bytes : List ℕ) (r : Result Objects ObjFault) (lines : List Word) (last : Word) → cut_at 10 bytes ≡ lines ++ last ∷ [] → GivesAt r (text_in false lines last) → (n : ℕ) → r ≡ Err (faults.BadObjects n) → IsBadAt n bytes
given-bad bytes r lines last cut given n is = bad-at bytes lines last n cut (subst (λ r. GivesAt r (text_in false lines last)) is given)
