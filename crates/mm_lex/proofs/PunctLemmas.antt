-- The punctuation token with which a text begins.
use Rattle.std.proofs.Common.{◌≡◌, ℕ, ◌<◌, ◌≤◌, lit<, Bool, true, false, cond, ◌&&◌, eqb, List, [], ◌∷◌, ◌++◌, length, take, drop, Option, Some, None, refl, ap, subst, arith}
use Rattle.std.specs.Char.{encode_utf8}
use Rattle.std.specs.Str.{encode_utf8_all}
use Rattle.std.proofs.lemmas.Bool.{and_parts, eqb-true, false≢true}
use Rattle.mm_lex.specs.declared.punct.Punct.{Punct}
use Rattle.mm_lex.specs.declared.punct.Punct.TheVariants as puncts
use Rattle.mm_lex.specs.Puncts.{punct_spelling, punct_in}
use Rattle.mm_lex.specs.Pieces.{lengthens_punct}
use Rattle.mm_names.specs.Prefixes.{StopsAt}
use Rattle.mm_lex.specs.FirstPieces.{first_punct}
use Rattle.mm_names.proofs.Prefixes.{stops_never}

-- the text begins with the token, and what follows does not make it longer
abbrev BeginsWith : Punct → List ℕ → Type 0
BeginsWith punct text =
    (take (length (punct_spelling punct)) text ≡ punct_spelling punct)
    × (length (punct_spelling punct) ≤ length text)
    × StopsAt (lengthens_punct punct) (drop (length (punct_spelling punct)) text)

abbrev BeginsWithAny : Option Punct → List ℕ → Type 0
BeginsWithAny None text = Unit {0}
BeginsWithAny (Some punct) text = BeginsWith punct text

-- a test, and what follows from each of its answers
by_test : (test : Bool) (x y : Option Punct) (text : List ℕ) → (test ≡ true → BeginsWithAny x text) → (test ≡ false → BeginsWithAny y text) → BeginsWithAny (cond test x y) text
by_test true x y text passes fails = passes refl
by_test false x y text passes fails = fails refl

-- a token of one character
one : (c k : ℕ) (cs : List ℕ) → eqb c k ≡ true → (c ∷ [] ≡ k ∷ []) × (1 ≤ length (c ∷ cs)) × StopsAt (λ d. false) cs
one c k cs is = (ap (λ d. d ∷ []) (eqb-true c k is), omega arith, stops_never cs)

-- a token of two, and that a last character is none
two : (c d k l : ℕ) (cs : List ℕ) → (eqb c k && eqb d l) ≡ true → (c ∷ d ∷ [] ≡ k ∷ l ∷ []) × (2 ≤ length (c ∷ d ∷ cs)) × StopsAt (λ e. false) cs
two c d k l cs are =
    let parts = and_parts (eqb c k) (eqb d l) are in
    ((λ i. eqb-true c k parts.0 i ∷ eqb-true d l parts.1 i ∷ []), omega arith, stops_never cs)

not_two : (c k : ℕ) (punct : Option Punct) → (eqb c k && false) ≡ true → BeginsWithAny punct (c ∷ [])
not_two c k punct are = absurd (false≢true (and_parts (eqb c k) false are).1)

-- the first of two characters that are no token of two, and a last character
first : (c d k l : ℕ) (cs : List ℕ) → (eqb c k && eqb d l) ≡ false → eqb c k ≡ true → (c ∷ [] ≡ k ∷ []) × (1 ≤ length (c ∷ d ∷ cs)) × StopsAt (λ e. eqb e l) (d ∷ cs)
first c d k l cs not_both is = (ap (λ e. e ∷ []) (eqb-true c k is), omega arith, rw is at not_both)

last : (c k l : ℕ) → eqb c k ≡ true → (c ∷ [] ≡ k ∷ []) × (1 ≤ length (c ∷ [])) × StopsAt (λ e. eqb e l) []
last c k l is = (ap (λ d. d ∷ []) (eqb-true c k is), omega arith, tt)

at_prefix : (text : List ℕ) → 0 < length text → BeginsWithAny (first_punct text) text
unfolding first_punct
at_prefix [] some = absurd (omega arith)
at_prefix (c ∷ []) some =
    by_test _ _ _ _ (not_two c 58 (Some puncts.PathSep)) (λ _.
    by_test _ _ _ _ (not_two c 45 (Some puncts.Arrow)) (λ _.
    by_test _ _ _ _ (not_two c 61 (Some puncts.FatArrow)) (λ _.
    by_test _ _ _ _ (one c 40 []) (λ _.
    by_test _ _ _ _ (one c 41 []) (λ _.
    by_test _ _ _ _ (one c 123 []) (λ _.
    by_test _ _ _ _ (one c 125 []) (λ _.
    by_test _ _ _ _ (one c 60 []) (λ _.
    by_test _ _ _ _ (one c 62 []) (λ _.
    by_test _ _ _ _ (one c 91 []) (λ _.
    by_test _ _ _ _ (one c 93 []) (λ _.
    by_test _ _ _ _ (one c 44 []) (λ _.
    by_test _ _ _ _ (one c 59 []) (λ _.
    by_test _ _ _ _ (last c 58 58) (λ _.
    by_test _ _ _ _ (one c 46 []) (λ _.
    by_test _ _ _ _ (one c 42 []) (λ _.
    by_test _ _ _ _ (one c 64 []) (λ _.
    by_test _ _ _ _ (one c 38 []) (λ _.
    by_test _ _ _ _ (last c 61 62) (λ _.
    tt)))))))))))))))))))
at_prefix (c ∷ d ∷ cs) some =
    by_test _ _ _ _ (two c d 58 58 cs) (λ no_pair.
    by_test _ _ _ _ (two c d 45 62 cs) (λ _.
    by_test _ _ _ _ (two c d 61 62 cs) (λ no_fat.
    by_test _ _ _ _ (one c 40 (d ∷ cs)) (λ _.
    by_test _ _ _ _ (one c 41 (d ∷ cs)) (λ _.
    by_test _ _ _ _ (one c 123 (d ∷ cs)) (λ _.
    by_test _ _ _ _ (one c 125 (d ∷ cs)) (λ _.
    by_test _ _ _ _ (one c 60 (d ∷ cs)) (λ _.
    by_test _ _ _ _ (one c 62 (d ∷ cs)) (λ _.
    by_test _ _ _ _ (one c 91 (d ∷ cs)) (λ _.
    by_test _ _ _ _ (one c 93 (d ∷ cs)) (λ _.
    by_test _ _ _ _ (one c 44 (d ∷ cs)) (λ _.
    by_test _ _ _ _ (one c 59 (d ∷ cs)) (λ _.
    by_test _ _ _ _ (first c d 58 58 cs no_pair) (λ _.
    by_test _ _ _ _ (one c 46 (d ∷ cs)) (λ _.
    by_test _ _ _ _ (one c 42 (d ∷ cs)) (λ _.
    by_test _ _ _ _ (one c 64 (d ∷ cs)) (λ _.
    by_test _ _ _ _ (one c 38 (d ∷ cs)) (λ _.
    by_test _ _ _ _ (first c d 61 62 cs no_fat) (λ _.
    tt)))))))))))))))))))

-- the text begins with what is found
pub first_punct-found : (text : List ℕ) (punct : Punct) → 0 < length text → first_punct text ≡ Some punct → BeginsWith punct text
first_punct-found text punct some found = subst (λ (r : Option Punct). BeginsWithAny r text) found (at_prefix text some)

-- that with which the text begins is found
pub first_punct-punct_spelling : (punct : Punct) (rest : List ℕ) → StopsAt (lengthens_punct punct) rest → first_punct (punct_spelling punct ++ rest) ≡ Some punct
unfolding first_punct
first_punct-punct_spelling puncts.PathSep rest stops = refl
first_punct-punct_spelling puncts.Arrow rest stops = refl
first_punct-punct_spelling puncts.FatArrow rest stops = refl
first_punct-punct_spelling puncts.Open rest stops = refl
first_punct-punct_spelling puncts.Close rest stops = refl
first_punct-punct_spelling puncts.OpenBrace rest stops = refl
first_punct-punct_spelling puncts.CloseBrace rest stops = refl
first_punct-punct_spelling puncts.Less rest stops = refl
first_punct-punct_spelling puncts.Greater rest stops = refl
first_punct-punct_spelling puncts.OpenBracket rest stops = refl
first_punct-punct_spelling puncts.CloseBracket rest stops = refl
first_punct-punct_spelling puncts.Comma rest stops = refl
first_punct-punct_spelling puncts.Semicolon rest stops = refl
first_punct-punct_spelling puncts.Colon [] stops = refl
first_punct-punct_spelling puncts.Colon (c ∷ cs) stops = rw stops refl
first_punct-punct_spelling puncts.Dot rest stops = refl
first_punct-punct_spelling puncts.Star rest stops = refl
first_punct-punct_spelling puncts.At rest stops = refl
first_punct-punct_spelling puncts.Ampersand rest stops = refl
first_punct-punct_spelling puncts.Equals [] stops = refl
first_punct-punct_spelling puncts.Equals (c ∷ cs) stops = rw stops refl

-- each token is found by its bytes, which are its characters
pub record IsMark (punct : Punct) : Type 0 where
  pub bytes : encode_utf8_all (punct_spelling punct) ≡ punct_spelling punct
  pub found : punct_in (punct_spelling punct) ≡ Some punct
  pub some : 0 < length (punct_spelling punct)

pub punct_spelling-mark : (punct : Punct) → IsMark punct
unfolding encode_utf8 punct_in
punct_spelling-mark puncts.PathSep = record { bytes = refl; found = refl; some = lit< tt }
punct_spelling-mark puncts.Arrow = record { bytes = refl; found = refl; some = lit< tt }
punct_spelling-mark puncts.FatArrow = record { bytes = refl; found = refl; some = lit< tt }
punct_spelling-mark puncts.Open = record { bytes = refl; found = refl; some = lit< tt }
punct_spelling-mark puncts.Close = record { bytes = refl; found = refl; some = lit< tt }
punct_spelling-mark puncts.OpenBrace = record { bytes = refl; found = refl; some = lit< tt }
punct_spelling-mark puncts.CloseBrace = record { bytes = refl; found = refl; some = lit< tt }
punct_spelling-mark puncts.Less = record { bytes = refl; found = refl; some = lit< tt }
punct_spelling-mark puncts.Greater = record { bytes = refl; found = refl; some = lit< tt }
punct_spelling-mark puncts.OpenBracket = record { bytes = refl; found = refl; some = lit< tt }
punct_spelling-mark puncts.CloseBracket = record { bytes = refl; found = refl; some = lit< tt }
punct_spelling-mark puncts.Comma = record { bytes = refl; found = refl; some = lit< tt }
punct_spelling-mark puncts.Semicolon = record { bytes = refl; found = refl; some = lit< tt }
punct_spelling-mark puncts.Colon = record { bytes = refl; found = refl; some = lit< tt }
punct_spelling-mark puncts.Dot = record { bytes = refl; found = refl; some = lit< tt }
punct_spelling-mark puncts.Star = record { bytes = refl; found = refl; some = lit< tt }
punct_spelling-mark puncts.At = record { bytes = refl; found = refl; some = lit< tt }
punct_spelling-mark puncts.Ampersand = record { bytes = refl; found = refl; some = lit< tt }
punct_spelling-mark puncts.Equals = record { bytes = refl; found = refl; some = lit< tt }
