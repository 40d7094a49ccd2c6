-- ASCII characters in names, and which bytes a name does not have.
use Rattle.std.proofs.Common.{◌≡◌, ℕ, ◌+◌, ◌<◌, ◌≤◌, ◌/◌, Bool, true, false, cond, ◌||◌, eqb, ltb, List, [], ◌∷◌, sym, ap, ◌∙◌, subst, refl, arith}
use Rattle.std.specs.Prelude.{All}
use Rattle.std.specs.List.{AllPass, list_all}
use Rattle.std.specs.Char.{is_ascii_digit, is_ascii_alphabetic, is_ascii_alphanumeric}
use Rattle.std.specs.Str.{chars, encode_utf8_all}
use Rattle.std.proofs.Math.Utf8.{encode, next}
use Rattle.std.proofs.lemmas.Bool.{and_parts, eqb-true, false_from_ne_true, both_ways}
use Rattle.std.proofs.lemmas.Bool.Decides.{nat_tests}
use Rattle.std.proofs.lemmas.List.Elements.{All-nil, All-cons, All-head, All-tail, All-append, All-same, All-weaker}
use Rattle.std.proofs.lemmas.List.Sums.{AllPass-from_list_all}
use Rattle.std.proofs.lemmas.Str.{encodes-chars}
use Rattle.unicode_ident.specs.Ident.{is_xid_continue}
use Rattle.unicode_ident.proofs.IdentLemmas.{is_xid_start-ascii, is_xid_continue-ascii}
use Rattle.mm_names.specs.Names.{starts_name, IsNameLike, IsName}
use Rattle.mm_names.proofs.WordSpellings.{is_ascii_word}

-- ASCII letters, digits and `_` in a name
pub starts_name-ascii : (c : ℕ) → c < 128 → starts_name c ≡ (is_ascii_alphabetic c || eqb c 95)
starts_name-ascii c small = ap (λ b. b || eqb c 95) (is_xid_start-ascii c small)

pub alphabetic_starts : (c : ℕ) → is_ascii_alphabetic c ≡ true → starts_name c ≡ true
alphabetic_starts c letter =
    let small : c < 128 = grind (arith, nat_tests) in
    rw (starts_name-ascii c small, letter) refl

pub alphanumeric_continues : (c : ℕ) → is_ascii_alphanumeric c ≡ true → is_xid_continue c ≡ true
alphanumeric_continues c is =
    let small : c < 128 = grind (arith, nat_tests) in
    rw (is_xid_continue-ascii c small, is) refl

pub digit_continues : (c : ℕ) → is_ascii_digit c ≡ true → is_xid_continue c ≡ true
digit_continues c is = alphanumeric_continues c (grind (arith, nat_tests))

-- digits go on in a name
pub digits_continue : (ds : List ℕ) → list_all is_ascii_digit ds ≡ true → AllPass is_xid_continue ds
digits_continue ds digits =
    All-weaker (λ c. is_ascii_digit c ≡ true) (λ c. is_xid_continue c ≡ true) digit_continues ds (AllPass-from_list_all is_ascii_digit ds digits)

pub ascii_word_like : (cs : List ℕ) → is_ascii_word cs ≡ true → IsNameLike cs
ascii_word_like [] is = cc
ascii_word_like (c ∷ cs) is =
    let parts = and_parts (is_ascii_alphabetic c) (list_all is_ascii_alphanumeric cs) is in (
      alphabetic_starts c parts.0,
      All-weaker (λ d. is_ascii_alphanumeric d ≡ true) (λ d. is_xid_continue d ≡ true) alphanumeric_continues cs (AllPass-from_list_all is_ascii_alphanumeric cs parts.1),
    )

module _ (d : ℕ) (small : d < 128) (plain : is_ascii_alphanumeric d || eqb d 95 ≡ false) where
  abbrev Other : ℕ → Type 0
  Other b = eqb b d ≡ false

  large_other : (b : ℕ) → 128 ≤ b → Other b
  large_other b large = grind (arith, nat_tests)

  two : (b c : ℕ) → 128 ≤ b → 128 ≤ c → All Other (b ∷ c ∷ [])
  two b c h g = All-cons Other b (c ∷ []) (large_other b h) (All-cons Other c [] (large_other c g) (All-nil Other))

  three : (a b c : ℕ) → 128 ≤ a → 128 ≤ b → 128 ≤ c → All Other (a ∷ b ∷ c ∷ [])
  three a b c f h g = All-cons Other a (b ∷ c ∷ []) (large_other a f) (two b c h g)

  four : (z a b c : ℕ) → 128 ≤ z → 128 ≤ a → 128 ≤ b → 128 ≤ c → All Other (z ∷ a ∷ b ∷ c ∷ [])
  four z a b c e f h g = All-cons Other z (a ∷ b ∷ c ∷ []) (large_other z e) (three a b c f h g)

  long_other : (c : ℕ) (p q : Bool) → All Other (cond p ((192 + c / 64) ∷ next c ∷ []) (cond q ((224 + c / 4096) ∷ next (c / 64) ∷ next c ∷ []) ((240 + c / 262144) ∷ next (c / 4096) ∷ next (c / 64) ∷ next c ∷ [])))
  long_other c true q = two (192 + c / 64) (next c) (omega arith) (omega arith)
  long_other c false true = three (224 + c / 4096) (next (c / 64)) (next c) (omega arith) (omega arith) (omega arith)
  long_other c false false = four (240 + c / 262144) (next (c / 4096)) (next (c / 64)) (next c) (omega arith) (omega arith) (omega arith) (omega arith)

  -- the bytes of a character are its own number, or all past ASCII
  encode_other : (c : ℕ) → Other c → All Other (encode c)
  unfolding encode
  encode_other c other = by_size (ltb c 128)
    where
      by_size : (p : Bool) → All Other (cond p (c ∷ []) (cond (ltb c 2048) ((192 + c / 64) ∷ next c ∷ []) (cond (ltb c 65536) ((224 + c / 4096) ∷ next (c / 64) ∷ next c ∷ []) ((240 + c / 262144) ∷ next (c / 4096) ∷ next (c / 64) ∷ next c ∷ []))))
      by_size true = All-cons Other c [] other (All-nil Other)
      by_size false = long_other c (ltb c 2048) (ltb c 65536)

  no_start : starts_name d ≡ false
  no_start = starts_name-ascii d small ∙ false_from_ne_true (is_ascii_alphabetic d || eqb d 95) (λ is. grind (arith, nat_tests))

  continue_other : (c : ℕ) → is_xid_continue c ≡ true → Other c
  continue_other c goes = false_from_ne_true (eqb c d) (λ is. both_ways (is_xid_continue d) (is_xid_continue-ascii d small ∙ plain) (subst (λ e. is_xid_continue e ≡ true) (eqb-true c d is) goes))

  start_other : (c : ℕ) → starts_name c ≡ true → Other c
  start_other c starts = false_from_ne_true (eqb c d) (λ is. both_ways (starts_name d) no_start (subst (λ e. starts_name e ≡ true) (eqb-true c d is) starts))

  encodes_other : (cs : List ℕ) → All Other cs → All Other (encode_utf8_all cs)
  encodes_other [] others = All-nil Other
  encodes_other (c ∷ cs) others = All-append Other (encode c) (encode_utf8_all cs) (encode_other c (All-head Other c cs others)) (encodes_other cs (All-tail Other c cs others))

  all_continue : (cs : List ℕ) → All (λ c. is_xid_continue c ≡ true) cs → All Other cs
  all_continue [] pass = All-nil Other
  all_continue (c ∷ cs) pass = All-cons Other c cs (continue_other c (All-head (λ e. is_xid_continue e ≡ true) c cs pass)) (all_continue cs (All-tail (λ e. is_xid_continue e ≡ true) c cs pass))

  like_other : (cs : List ℕ) → IsNameLike cs → All Other cs
  like_other [] like = absurd like
  like_other (c ∷ cs) like = All-cons Other c cs (start_other c like.0) (all_continue cs like.1)

  -- an ASCII character that is no letter, no digit and not `_` stands in no name
  pub IsName-without : (name : List ℕ) → IsName name → All (λ b. eqb b d ≡ false) name
  IsName-without name is = All-same Other name (encode_utf8_all (chars name)) (sym (encodes-chars name is.utf8)) (encodes_other (chars name) (like_other (chars name) is.form))
