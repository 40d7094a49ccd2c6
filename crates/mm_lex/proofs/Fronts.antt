-- The bytes of the longest prefix whose characters pass a test.
use Rattle.std.proofs.Common.{◌≡◌, ℕ, ◌<◌, Bool, true, false, not, List, [], ◌∷◌, ◌++◌, take, drop, length, Option, Some, None, MatchOption, IsUtf8, refl, sym, ap, ◌∙◌, arith, append-nil, take-append-drop}
use Rattle.std.specs.List.{AllPass, list_all}
use Rattle.std.specs.Char.{is_ascii_digit, encode_utf8}
use Rattle.std.specs.Str.{chars, encode_utf8_all, NonePass}
use Rattle.std.specs.Prelude.{◌==◌, slice_get, slice_index, slice_range, ◌-◌}
use Rattle.std.specs.Option.{unwrap_or}
use Rattle.std.proofs.lemmas.List.{nil_from_length}
use Rattle.std.specs.Str.Pattern.{FindsBy, FindsChar, MatchBeginsAt}
use Rattle.std.proofs.lemmas.Bool.{and_parts}
use Rattle.std.proofs.lemmas.Bool.Decides.{nat_tests}
use Rattle.std.proofs.lemmas.List.Elements.{All-nil, All-cons}
use Rattle.std.proofs.lemmas.Str.{chars_from_encodes, chars-append, chars_past_char, IsUtf8-take, IsUtf8-drop, encode_ascii, encodes_same}
use Rattle.mm_names.specs.Prefixes.{StopsAt}
use Rattle.mm_names.proofs.Prefixes.{prefix_len-append, take-prefix}
use Rattle.mm_lex.specs.Pieces.{is_within_line}
use Rattle.mm_lex.specs.FirstPieces.{front}

-- passing characters before what stops there are the longest prefix
pub front-append : (test : ℕ → Bool) (cs rest : List ℕ) → AllPass test cs → StopsAt test rest → front test (cs ++ rest) ≡ encode_utf8_all cs
front-append test cs rest pass stops =
    ap (λ n. encode_utf8_all (take n (cs ++ rest))) (prefix_len-append test cs rest pass stops)
    ∙ ap encode_utf8_all (take-prefix cs rest (length cs) refl)

passes : (b : Bool) → not b ≡ false → b ≡ true
passes true h = refl
passes false h = cc

fails : (b : Bool) → not b ≡ true → b ≡ false
fails true h = cc
fails false h = refl

all_pass : (test : ℕ → Bool) (cs : List ℕ) → NonePass (λ c. not (test c)) cs → AllPass test cs
all_pass test [] h = All-nil (λ c. test c ≡ true)
all_pass test (c ∷ cs) h = All-cons (λ c. test c ≡ true) c cs (passes (test c) h.0) (all_pass test cs h.1)

-- the text up to the first character that fails the test, or the whole text, is the longest prefix
abbrev pub IsFront : (ℕ → Bool) → List ℕ → Option ℕ → Type 0
IsFront test bs r = MatchOption r (bs ≡ front test (chars bs)) (λ i. take i bs ≡ front test (chars bs))

pub front_found : (F : List ℕ → Option (ℕ × ℕ) → Type 0) (test : ℕ → Bool) (bs : List ℕ) (r : Option ℕ) → IsUtf8 bs → ((p : Option (ℕ × ℕ)) → F bs p → FindsBy (λ c. not (test c)) bs p) → MatchOption r (F bs None) (MatchBeginsAt F bs) → IsFront test bs r
front_found F test bs None utf8 finds h =
    let none = finds None h in
    let same : chars bs ≡ none.0 ++ [] = sym (append-nil none.0 ∙ chars_from_encodes none.0 bs utf8 none.1) in
    sym (ap (front test) same ∙ front-append test none.0 [] (all_pass test none.0 none.2) tt ∙ none.1)
front_found F test bs (Some i) utf8 finds h =
    let found = finds (Some (i, h.0)) h.1 in
    let cs = found.0.0 in
    let c = found.1.0 in
    let at = found.1.2 in
    let front_utf8 = IsUtf8-take bs i utf8 h.3 in
    let before : chars (take i bs) ≡ cs = sym (chars_from_encodes cs (take i bs) front_utf8 found.0.1) in
    let behind : chars (drop i bs) ≡ c ∷ chars (drop h.0 bs) = chars_past_char (drop i bs) (drop h.0 bs) c (IsUtf8-drop bs i utf8 h.3) at.split in
    let same : chars bs ≡ cs ++ (c ∷ chars (drop h.0 bs)) =
    ap chars (sym (take-append-drop i bs)) ∙ chars-append (take i bs) (drop i bs) front_utf8 ∙ (λ k. before k ++ behind k) in
    sym (ap (front test) same ∙ front-append test cs (c ∷ chars (drop h.0 bs)) (all_pass test cs found.0.2) (fails (test c) found.1.1) ∙ found.0.1)

-- a search by a test that answers whether a character fails
pub front_by : (A : (ℕ → Bool) → Type 0) (test : ℕ → Bool) (bs : List ℕ) (r : Option ℕ) → IsUtf8 bs → MatchOption r ((k : ℕ → Bool) → A k → FindsBy k bs None) (MatchBeginsAt (λ s p. (k : ℕ → Bool) → A k → FindsBy k s p) bs) → A (λ c. not (test c)) → IsFront test bs r
front_by A test bs r utf8 found always =
    front_found (λ s p. (k : ℕ → Bool) → A k → FindsBy k s p) test bs r utf8 (λ p finds. finds (λ c. not (test c)) always) found

-- ASCII digits are their own bytes
pub digits_encode : (ds : List ℕ) → list_all is_ascii_digit ds ≡ true → encode_utf8_all ds ≡ ds
digits_encode [] digits = refl
digits_encode (d ∷ ds) digits =
    let parts = and_parts (is_ascii_digit d) (list_all is_ascii_digit ds) digits in
    let digit : d < 128 = grind (arith, nat_tests, parts.0) in
    λ i. encode_ascii d digit i ++ digits_encode ds parts.1 i

-- characters that are their own bytes are those that the bytes spell
pub spelled_same : (cs spelled bytes : List ℕ) → encode_utf8_all spelled ≡ spelled → spelled ≡ bytes → encode_utf8_all cs ≡ bytes → spelled ≡ cs
spelled_same cs spelled bytes own same encodes = encodes_same spelled cs (own ∙ same ∙ sym encodes)

-- a search for LF ends the line
double_not : (b : Bool) → not (not b) ≡ b
double_not true = refl
double_not false = refl

none_end : (cs : List ℕ) → NonePass (λ d. d == 10) cs → NonePass (λ c. not (is_within_line c)) cs
none_end [] h = h
none_end (c ∷ cs) h = (double_not (c == 10) ∙ h.0, none_end cs h.1)

pub finds_line_end : (bs : List ℕ) (p : Option (ℕ × ℕ)) → FindsChar 10 bs p → FindsBy (λ c. not (is_within_line c)) bs p
finds_line_end bs None finds = (finds.0, finds.1, none_end finds.0 finds.2)
finds_line_end bs (Some p) finds = ((finds.0.0, finds.0.1, none_end finds.0.0 finds.0.2), (10, refl, finds.1))

-- the second character is the first of what stands behind the first one
second_first : (bs : List ℕ) → slice_index (drop 1 bs) 0 ≡ slice_index bs 1
second_first [] = refl
second_first (c ∷ cs) = refl

pub next_char : {S : Type 0} (rest_of : S → List ℕ) (s t : S) (r : Option ℕ) → IsUtf8 (rest_of s) → MatchOption r ((length (rest_of s) ≡ 0) × (t ≡ s)) (λ c. rest_of s ≡ encode_utf8 c ++ rest_of t) → slice_index (chars (rest_of t)) 0 ≡ slice_index (chars (rest_of s)) 1
unfolding chars
next_char rest_of s t None utf8 steps =
    let none : rest_of s ≡ [] = nil_from_length (rest_of s) steps.0 in
    rw (steps.1, none) refl
next_char rest_of s t (Some c) utf8 steps =
    let same = chars_past_char (rest_of s) (rest_of t) c utf8 steps in
    ap (λ cs. slice_index cs 1) (sym same)

pub get_index : (cs : List ℕ) → unwrap_or (slice_get cs 0) 0 ≡ slice_index cs 0
get_index [] = refl
get_index (c ∷ cs) = refl

pub slice_from_start : (bs : List ℕ) (n : ℕ) → slice_range bs 0 n ≡ take n bs
slice_from_start bs n = let same : n - 0 ≡ n = omega arith in rw same refl
