-- Names and paths are read.
use Rattle.std.proofs.Common.{◌≡◌, ℕ, ◌^◌, ◌<◌, ◌≤◌, List, [], ◌∷◌, ◌++◌, length, take, drop, true, false, eqb, leb, Some, None, refl, sym, ◌∙◌, ap, subst, append_assoc, length-append, arith}
use Rattle.std.specs.Prelude.{All, decimal}
use Rattle.std.specs.List.{prefix_len, list_all}
use Rattle.std.specs.Char.{is_ascii_digit}
use Rattle.std.specs.Str.{chars}
use Rattle.std.proofs.lemmas.Bool.{and_parts, leb-true, le-leb, cond-true, false_from_ne_true, both_ways}
use Rattle.std.proofs.lemmas.Bool.Decides.{nat_tests}
use Rattle.std.proofs.lemmas.Option.{cond_some}
use Rattle.std.proofs.lemmas.List.{length-take-le, take-append-drop}
use Rattle.std.proofs.lemmas.List.Elements.{All-weaker}
use Rattle.std.proofs.lemmas.List.Sums.{AllPass-from_list_all, list_all-from_AllPass}
use Rattle.std.proofs.lemmas.Fmt.{decimal_nonempty}
use Rattle.std.proofs.lemmas.Str.{chars_past_char, encode_ascii}
use Rattle.mm_names.specs.Names.{starts_name, IsNameLike, IsName}
use Rattle.mm_names.specs.Prefixes.{StopsAt}
use Rattle.mm_names.specs.Decimals.{number_in}
use Rattle.mm_names.specs.Runs.{is_name}
use Rattle.mm_names.proofs.Numerals.{number_in-writes, number_in-decimal, decimal-digits}
use Rattle.mm_names.proofs.NameLemmas.{starts_name-ascii}
use Rattle.mm_names.proofs.Prefixes.{prefix_len-append, take-prefix, drop-prefix}
use Rattle.mm_names.proofs.RunLemmas.{is_name-sound, is_name-complete}
use Rattle.mm_symbols.specs.SymbolText.{seg_text, path_text}
use Rattle.mm_symbols.specs.SymbolForms.{IsPath}
use Rattle.mm_symbols.specs.Reading.{bytes_in, segment_in, name_in, segments_in, is_path, path_in}
use Rattle.mm_symbols.proofs.Readers.{Reads, IsBegun, bind_some, bind_at, reads_behind, reads_tested, reads_until}

-- there is a first byte, and it is no digit
abbrev pub BeginsOther : List ℕ → Type 0
BeginsOther [] = ⊥
BeginsOther (c ∷ cs) = is_ascii_digit c ≡ false

-- what can be reported from the length before it
pub record IsSegment (bytes : List ℕ) : Type 0 where
  pub short : length bytes ≤ 255
  pub other : BeginsOther bytes

other_stops : (bytes rest : List ℕ) → BeginsOther bytes → StopsAt is_ascii_digit (bytes ++ rest)
other_stops [] rest o = absurd o
other_stops (c ∷ cs) rest o = o

segment_sound : (bytes name rest : List ℕ) → segment_in bytes ≡ Some (name, rest) → Unit {0} × (bytes ≡ seg_text name ++ rest)
unfolding segment_in
segment_sound bytes name rest h =
    let n = prefix_len is_ascii_digit bytes in
    let b = bind_some (number_in 255 (take n bytes)) (λ len. bytes_in len (drop n bytes)) (name, rest) h in
    let len = b.0 in
    let behind = drop n bytes in
    let writes = number_in-writes 255 len (take n bytes) (omega arith) b.1 in
    let d = cond_some (leb len (length behind)) (take len behind, drop len behind) (name, rest) b.2 in
    let fits : len ≤ length behind = leb-true len (length behind) d.0 in
    let Fits : List ℕ × List ℕ → Type 0 = λ q. bytes ≡ seg_text q.0 ++ q.1 in
    let whole : bytes ≡ seg_text (take len behind) ++ drop len behind =
    sym (take-append-drop n bytes)
    ∙ ap (λ l. take n bytes ++ l) (sym (take-append-drop len behind))
    ∙ sym (append_assoc (take n bytes) (take len behind) (drop len behind))
    ∙ ap (λ l. (l ++ take len behind) ++ drop len behind) (sym writes.0 ∙ ap decimal (sym (length-take-le len behind fits))) in
    (tt, subst Fits d.1 whole)

segment_complete : (name rest : List ℕ) → IsSegment name → segment_in (seg_text name ++ rest) ≡ Some (name, rest)
unfolding segment_in
segment_complete name rest is =
    let len = length name in
    let digits = decimal len in
    let bytes = (digits ++ name) ++ rest in
    let small : len < 2 ^ 64 = omega (arith, is.short) in
    let split : bytes ≡ digits ++ (name ++ rest) = append_assoc digits name rest in
    let n = prefix_len is_ascii_digit bytes in
    let all_digits = AllPass-from_list_all is_ascii_digit digits (decimal-digits len small) in
    let prefix : n ≡ length digits = ap (prefix_len is_ascii_digit) split ∙ prefix_len-append is_ascii_digit digits (name ++ rest) all_digits (other_stops name rest is.other) in
    let taken : take n bytes ≡ digits = ap (take n) split ∙ take-prefix digits (name ++ rest) n prefix in
    let left : drop n bytes ≡ name ++ rest = ap (drop n) split ∙ drop-prefix digits (name ++ rest) n prefix in
    let read : number_in 255 (take n bytes) ≡ Some len = ap (number_in 255) taken ∙ number_in-decimal 255 len (omega arith) is.short in
    let enough : leb len (length (name ++ rest)) ≡ true = le-leb len (length (name ++ rest)) (omega (arith, length-append name rest)) in
    let got : bytes_in len (name ++ rest) ≡ Some (name, rest) = cond-true (leb len (length (name ++ rest))) (Some (take len (name ++ rest), drop len (name ++ rest))) None enough ∙ (λ i. Some (take-prefix name rest len refl i, drop-prefix name rest len refl i)) in
    bind_at (number_in 255 (take n bytes)) (λ l. bytes_in l (drop n bytes)) len (Some (name, rest)) read (ap (bytes_in len) left ∙ got)

pub reads_segment : Reads (λ s. Unit {0}) IsSegment seg_text segment_in
reads_segment = record { sound = segment_sound; complete = segment_complete }

-- ---- names

digit_starts_none : (c : ℕ) → is_ascii_digit c ≡ true → starts_name c ≡ false
digit_starts_none c digit =
    let small : c < 128 = grind (arith, nat_tests) in
    rw (starts_name-ascii c small) (grind (arith, nat_tests))

no_digit : (c : ℕ) (cs : List ℕ) → IsName (c ∷ cs) → is_ascii_digit c ≡ true → ⊥
no_digit c cs name digit =
    let small : c < 128 = grind (arith, nat_tests) in
    let split : chars (c ∷ cs) ≡ c ∷ chars cs = chars_past_char (c ∷ cs) cs c name.utf8 (ap (λ l. l ++ cs) (sym (encode_ascii c small))) in
    both_ways (starts_name c) (digit_starts_none c digit) (subst IsNameLike split name.form).0

pub IsName-segment : (bytes : List ℕ) → IsName bytes → IsSegment bytes
unfolding chars
IsName-segment [] name = absurd name.form
IsName-segment (c ∷ cs) name = record { short = name.short; other = false_from_ne_true (is_ascii_digit c) (no_digit c cs name) }

pub reads_name : Reads IsName IsName seg_text name_in
unfolding name_in
reads_name = reads_tested IsName is_name (λ s any is. is_name-sound s is) (λ s name. (IsName-segment s name, is_name-complete s name)) reads_segment

-- ---- paths

not_e : (d : ℕ) → is_ascii_digit d ≡ true → eqb d 69 ≡ false
not_e d digit = grind (arith, nat_tests)

digits_begun : (ds rest : List ℕ) → 0 < length ds → list_all is_ascii_digit ds ≡ true → IsBegun (ds ++ rest)
digits_begun [] rest some digits = absurd (omega arith)
digits_begun (d ∷ ds) rest some digits = not_e d (and_parts (is_ascii_digit d) (list_all is_ascii_digit ds) digits).0

-- a length begins with a digit, and so not with E
seg_begun : (name : List ℕ) → IsSegment name → IsBegun (seg_text name)
seg_begun name is = digits_begun (decimal (length name)) name (decimal_nonempty (length name) (omega (arith, is.short))) (decimal-digits (length name) (omega (arith, is.short)))

pub reads_segments : Reads (All (λ s. Unit {0})) (All IsSegment) path_text segments_in
unfolding segments_in
reads_segments = reads_behind 78 (reads_until (λ s. Unit {0}) IsSegment seg_text segment_in reads_segment seg_begun)

pub is_path-sound : (names : List (List ℕ)) → is_path names ≡ true → IsPath names
is_path-sound [] h = cc
is_path-sound (name ∷ names) h = record {
  some = λ none. (cc);
  each = All-weaker (λ s. is_name s ≡ true) IsName is_name-sound (name ∷ names) (AllPass-from_list_all is_name (name ∷ names) h);
}

pub is_path-complete : (names : List (List ℕ)) → IsPath names → All IsSegment names × (is_path names ≡ true)
is_path-complete [] path = absurd (path.some refl)
is_path-complete (name ∷ names) path = (
  All-weaker IsName IsSegment IsName-segment (name ∷ names) path.each,
  list_all-from_AllPass is_name (name ∷ names) (All-weaker IsName (λ s. is_name s ≡ true) is_name-complete (name ∷ names) path.each),
)

pub reads_path : Reads IsPath IsPath path_text path_in
unfolding path_in
reads_path = reads_tested IsPath is_path (λ names any is. is_path-sound names is) is_path-complete reads_segments
