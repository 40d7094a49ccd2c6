-- What a run is, by its bytes, and that the test of names decides what a name is.
use Rattle.std.proofs.Common.{◌≡◌, ◌↔◌, IsTrue, ℕ, ◌^◌, ◌<◌, ◌≤◌, Bool, true, false, cond, ◌&&◌, eqb, leb, List, [], ◌∷◌, ◌++◌, length, drop, Option, Some, None, refl, sym, subst, arith}
use Rattle.std.specs.Prelude.{codes}
use Rattle.std.specs.Bool.{Decides}
use Rattle.std.specs.List.{list_all}
use Rattle.std.specs.Option.{option_map}
use Rattle.std.specs.Char.{is_ascii_digit}
use Rattle.std.specs.Str.{IsUtf8, is_utf8, chars}
use Rattle.std.specs.Fmt.{decimal}
use Rattle.std.proofs.lemmas.Bool.{and_parts, leb-true, le-leb, eqb-true, false_from_ne_true, both_ways}
use Rattle.std.proofs.lemmas.Option.{cond_some, same_Some}
use Rattle.std.proofs.lemmas.Str.{IsUtf8-from_is_utf8, is_utf8-from_IsUtf8}
use Rattle.std.proofs.lemmas.Fmt.{decimal_nonempty}
use Rattle.std.proofs.lemmas.List.Sums.{AllPass-from_list_all, list_all-from_AllPass}
use Rattle.unicode_ident.specs.Ident.{is_xid_continue}
use Rattle.mm_names.specs.declared.word.Word.{Word}
use Rattle.mm_names.specs.declared.run.Run.{Run}
use Rattle.mm_names.specs.declared.run.Run.TheVariants as runs
use Rattle.mm_names.specs.Words.{word_spelling}
use Rattle.mm_names.specs.Decimals.{number_in}
use Rattle.mm_names.specs.Names.{IsNameLike, is_local_like, is_label_like, IsName}
use Rattle.mm_names.specs.Runs.{word_in, word_or_name, named_in, run_in, first_starts, is_named, is_name}
use Rattle.mm_names.proofs.Numerals.{number_in-writes, number_in-decimal, decimal-digits}
use Rattle.mm_names.proofs.WordSpellings.{word_in-word_spelling, word_in_spells, word_in-none, no_word_spells, word_spelling-plain}

-- the bytes are those of the run
abbrev pub IsRun : List ℕ → Run → Type 0
IsRun bytes (runs.Local n) = (codes "_" ++ decimal n ≡ bytes) × (n ≤ 65535)
IsRun bytes (runs.Label n) = (codes "bb" ++ decimal n ≡ bytes) × (n ≤ 65535)
IsRun bytes (runs.Word word) = word_spelling word ≡ bytes
IsRun bytes runs.Name = IsName bytes

-- what a mapped option holds
pub mapped : {A B : Type 0} (f : A → B) (o : Option A) (y : B) → option_map f o ≡ Some y → (x : A) × (o ≡ Some x) × (f x ≡ y)
mapped f None y h = cc
mapped f (Some x) y h = (x, refl, cc)

-- the digits behind `_` write the number of a local
local_found : (bytes : List ℕ) (run : Run) → is_local_like bytes ≡ true → option_map runs.Local (number_in 65535 (drop 1 bytes)) ≡ Some run → IsRun bytes run
local_found [] run like found = cc
local_found (c ∷ ds) run like found =
    let parts = and_parts (eqb c 95) (list_all is_ascii_digit ds) like in
    let number = mapped runs.Local (number_in 65535 ds) run found in
    let writes = number_in-writes 65535 number.0 ds (omega arith) number.1 in
    let first : c ≡ 95 = eqb-true c 95 parts.0 in
    subst (IsRun (c ∷ ds)) number.2 ((λ i. sym first i ∷ writes.0 i), writes.1)

label_found : (bytes : List ℕ) (run : Run) → is_label_like bytes ≡ true → option_map runs.Label (number_in 65535 (drop 2 bytes)) ≡ Some run → IsRun bytes run
label_found [] run like found = cc
label_found (b ∷ []) run like found = cc
label_found (b ∷ c ∷ []) run like found = cc
label_found (b ∷ c ∷ d ∷ ds) run like found =
    let parts = and_parts (eqb b 98 && eqb c 98) (list_all is_ascii_digit (d ∷ ds)) like in
    let letters = and_parts (eqb b 98) (eqb c 98) parts.0 in
    let number = mapped runs.Label (number_in 65535 (d ∷ ds)) run found in
    let writes = number_in-writes 65535 number.0 (d ∷ ds) (omega arith) number.1 in
    let first : b ≡ 98 = eqb-true b 98 letters.0 in
    let second : c ≡ 98 = eqb-true c 98 letters.1 in
    subst (IsRun (b ∷ c ∷ d ∷ ds)) number.2 ((λ i. sym first i ∷ sym second i ∷ writes.0 i), writes.1)

-- what is no local, no label and no word is a name, where it is short
name_found : (bytes : List ℕ) (run : Run) → IsUtf8 bytes → IsNameLike (chars bytes) → is_local_like bytes ≡ false → is_label_like bytes ≡ false → word_in bytes ≡ None → word_or_name None bytes ≡ Some run → IsRun bytes run
name_found bytes run utf8 like no_local no_label no_word found =
    let parts = cond_some (leb (length bytes) 255) runs.Name run found in
    subst (IsRun bytes) parts.1 (record {
      utf8 = utf8;
      form = like;
      short = leb-true (length bytes) 255 parts.0;
      no_word = no_word_spells bytes no_word;
      no_local = no_local;
      no_label = no_label;
    })

named_found : (bytes : List ℕ) (run : Run) → IsUtf8 bytes → IsNameLike (chars bytes) → is_local_like bytes ≡ false → is_label_like bytes ≡ false → named_in bytes ≡ Some run → IsRun bytes run
named_found bytes run utf8 like no_local no_label found = by_word (word_in bytes) refl found
  where
    by_word : (r : Option Word) → word_in bytes ≡ r → word_or_name r bytes ≡ Some run → IsRun bytes run
    by_word None none is = name_found bytes run utf8 like no_local no_label none is
    by_word (Some word) some is = subst (IsRun bytes) (same_Some (runs.Word word) run is) (word_in_spells bytes word some)

-- what is read from a run is what the run is
pub run_in-found : (bytes : List ℕ) (run : Run) → IsUtf8 bytes → IsNameLike (chars bytes) → run_in bytes ≡ Some run → IsRun bytes run
unfolding run_in
run_in-found bytes run utf8 like found = by_local (is_local_like bytes) refl found
  where
    by_label : (b : Bool) → is_local_like bytes ≡ false → is_label_like bytes ≡ b → cond b (option_map runs.Label (number_in 65535 (drop 2 bytes))) (named_in bytes) ≡ Some run → IsRun bytes run
    by_label true no_local is read = label_found bytes run is read
    by_label false no_local is read = named_found bytes run utf8 like no_local is read

    by_local : (b : Bool) → is_local_like bytes ≡ b → cond b (option_map runs.Local (number_in 65535 (drop 1 bytes))) (cond (is_label_like bytes) (option_map runs.Label (number_in 65535 (drop 2 bytes))) (named_in bytes)) ≡ Some run → IsRun bytes run
    by_local true is read = local_found bytes run is read
    by_local false is read = by_label (is_label_like bytes) is refl read

-- each run is read from its bytes
pub run_in-name : (bytes : List ℕ) → IsName bytes → run_in bytes ≡ Some runs.Name
unfolding run_in
run_in-name bytes name = rw (name.no_local, name.no_label, word_in-none bytes name.no_word, le-leb (length bytes) 255 name.short) refl

pub run_in-word : (word : Word) → run_in (word_spelling word) ≡ Some (runs.Word word)
unfolding run_in
run_in-word word =
    let plain = word_spelling-plain word in
    rw (plain.no_local, plain.no_label, word_in-word_spelling word) refl

pub run_in-local : (n : ℕ) → n ≤ 65535 → run_in (codes "_" ++ decimal n) ≡ Some (runs.Local n)
unfolding run_in
run_in-local n few = rw (decimal-digits n (omega arith), number_in-decimal 65535 n (omega arith) few) refl

-- `bb` and digits, of which there is one at least
label_like : (ds : List ℕ) → list_all is_ascii_digit ds ≡ true → 0 < length ds → is_label_like (98 ∷ 98 ∷ ds) ≡ true
label_like [] digits some = absurd (omega arith)
label_like (d ∷ ds) digits some = digits

pub run_in-label : (n : ℕ) → n ≤ 65535 → run_in (codes "bb" ++ decimal n) ≡ Some (runs.Label n)
unfolding run_in
run_in-label n few =
    let small : n < 2 ^ 64 = omega arith in
    rw (label_like (decimal n) (decimal-digits n small) (decimal_nonempty n small), number_in-decimal 65535 n (omega arith) few) refl

like : (cs : List ℕ) → first_starts cs ≡ true → list_all is_xid_continue (drop 1 cs) ≡ true → IsNameLike cs
like [] starts continue = cc
like (c ∷ cs) starts continue = (starts, AllPass-from_list_all is_xid_continue cs continue)

test_like : (cs : List ℕ) → IsNameLike cs → (first_starts cs ≡ true) × (list_all is_xid_continue (drop 1 cs) ≡ true)
test_like [] h = absurd h
test_like (c ∷ cs) h = (h.0, list_all-from_AllPass is_xid_continue cs h.1)

named : (o : Option Run) → is_named o ≡ true → o ≡ Some runs.Name
named (Some runs.Name) h = refl
named (Some (runs.Word w)) h = cc
named (Some (runs.Local n)) h = cc
named (Some (runs.Label n)) h = cc
named None h = cc

pub is_name-sound : (bytes : List ℕ) → is_name bytes ≡ true → IsName bytes
unfolding is_name
is_name-sound bytes h =
    let cs = chars bytes in
    let starts = first_starts cs in
    let continue = list_all is_xid_continue (drop 1 cs) in
    let first = and_parts (is_utf8 bytes && starts && continue) (is_named (run_in bytes)) h in
    let second = and_parts (is_utf8 bytes && starts) continue first.0 in
    let third = and_parts (is_utf8 bytes) starts second.0 in
    run_in-found bytes runs.Name (IsUtf8-from_is_utf8 bytes third.0) (like cs third.1 second.1) (named (run_in bytes) first.1)

pub is_name-complete : (bytes : List ℕ) → IsName bytes → is_name bytes ≡ true
unfolding is_name
is_name-complete bytes name =
    let tests = test_like (chars bytes) name.form in
    rw (is_utf8-from_IsUtf8 bytes name.utf8, tests.0, tests.1, run_in-name bytes name) refl

pub is_name-decides : (bytes : List ℕ) → Decides (is_name bytes) (IsName bytes)
is_name-decides bytes = (is_name-sound bytes, is_name-complete bytes)

-- what tells whether bytes are a name is the test
pub is_name-same : (bytes : List ℕ) (b : Bool) → (IsTrue b ↔ IsName bytes) → b ≡ is_name bytes
is_name-same bytes true tells = sym (is_name-complete bytes (tells.0 refl))
is_name-same bytes false tells = sym (false_from_ne_true (is_name bytes) (λ is. both_ways false refl (tells.1 (is_name-sound bytes is))))

-- bytes of a text are a name where their characters and the run are those of one
pub is_name_of_utf8 : (bytes : List ℕ) → IsUtf8 bytes → is_name bytes ≡ (first_starts (chars bytes) && list_all is_xid_continue (drop 1 (chars bytes)) && is_named (run_in bytes))
unfolding is_name
is_name_of_utf8 bytes utf8 = rw (is_utf8-from_IsUtf8 bytes utf8) refl
