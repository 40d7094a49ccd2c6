-- Runs and numbers: what each is, and that each such token is read.
use Rattle.std.proofs.Common.{◌≡◌, ℕ, ◌^◌, ◌<◌, ◌≤◌, Bool, true, false, ◌||◌, eqb, List, ◌∷◌, ◌++◌, Some, refl, sym, ap, ◌∙◌, subst, arith}
use Rattle.std.specs.Prelude.{codes}
use Rattle.std.specs.Char.{encode_utf8}
use Rattle.std.specs.Str.{all_scalars, encode_utf8_all}
use Rattle.std.specs.Fmt.{decimal}
use Rattle.std.proofs.lemmas.Bool.{eqb-true}
use Rattle.std.proofs.lemmas.Str.{chars-encodes, encodes-chars}
use Rattle.std.proofs.lemmas.List.Elements.{All-cons}
use Rattle.unicode_ident.specs.Ident.{is_xid_start, is_xid_continue}
use Rattle.unicode_ident.proofs.IdentLemmas.{is_xid_continue-ascii, is_xid_start-is_xid_continue}
use Rattle.mm_names.specs.declared.run.Run.{Run}
use Rattle.mm_names.specs.declared.run.Run.TheVariants as runs
use Rattle.mm_names.specs.declared.word.Word as words
use Rattle.mm_names.specs.Words.{word_spelling}
use Rattle.mm_names.specs.Names.{starts_name, IsNameLike, IsName}
use Rattle.mm_names.specs.Runs.{run_in}
use Rattle.mm_names.proofs.NameLemmas.{starts_name-ascii, alphabetic_starts, alphanumeric_continues, digits_continue, ascii_word_like}
use Rattle.mm_names.proofs.Numerals.{decimal-digits}
use Rattle.mm_names.proofs.RunLemmas.{IsRun, run_in-found, run_in-name, run_in-word, run_in-local, run_in-label}
use Rattle.mm_names.proofs.WordSpellings.{word_in-word_spelling, word_spelling-plain}
use Rattle.mm_lex.specs.Lexemes.{LexemeKind, Name, Word, Local, Label, Number, Punct, Other, kind_by}
use Rattle.mm_lex.specs.Pieces.{spelling, IsToken, lengthens}
use Rattle.mm_lex.specs.Tokens.{kind_of}
use Rattle.mm_lex.specs.FirstPieces.{run_kind}
use Rattle.mm_lex.proofs.Fronts.{digits_encode, spelled_same}
use Rattle.mm_lex.proofs.PunctLemmas.{punct_spelling-mark}

-- what starts a name may go on in it
pub start_continues : (c : ℕ) → starts_name c ≡ true → is_xid_continue c ≡ true
start_continues c starts = by_start (is_xid_start c) refl starts
  where
    by_start : (b : Bool) → is_xid_start c ≡ b → (b || eqb c 95) ≡ true → is_xid_continue c ≡ true
    by_start true is h = is_xid_start-is_xid_continue c is
    by_start false is h = let low_line : c ≡ 95 = eqb-true c 95 h in rw low_line (is_xid_continue-ascii 95 (omega arith))

-- a number is its own bytes, also behind `_` and `bb`
pub decimal-encode : (n : ℕ) → n < 2 ^ 64 → encode_utf8_all (decimal n) ≡ decimal n
decimal-encode n small = digits_encode (decimal n) (decimal-digits n small)

local-encode : (n : ℕ) → n ≤ 65535 → encode_utf8_all (codes "_" ++ decimal n) ≡ codes "_" ++ decimal n
unfolding encode_utf8
local-encode n few = ap (λ ds. 95 ∷ ds) (decimal-encode n (omega arith))

label-encode : (n : ℕ) → n ≤ 65535 → encode_utf8_all (codes "bb" ++ decimal n) ≡ codes "bb" ++ decimal n
unfolding encode_utf8
label-encode n few = ap (λ ds. 98 ∷ 98 ∷ ds) (decimal-encode n (omega arith))

-- the token that a run is
abbrev pub run_token : List ℕ → Run → LexemeKind
run_token bytes (runs.Local n) = Local n
run_token bytes (runs.Label n) = Label n
run_token bytes (runs.Word word) = Word word
run_token bytes runs.Name = Name bytes

-- a token is found in a run of characters, and ends where the run does
pub record IsFound (cs : List ℕ) (run : Run) : Type 0 where
  pub kind : LexemeKind
  pub spells : spelling kind ≡ cs
  pub is : IsToken kind
  pub kind_is : kind_of kind ≡ run_kind run
  pub ends : lengthens kind ≡ is_xid_continue

found_of : (cs : List ℕ) (run : Run) → all_scalars cs ≡ true → IsRun (encode_utf8_all cs) run → IsFound cs run
found_of cs (runs.Local n) scalar is = record {
  kind = Local n;
  spells = spelled_same cs (codes "_" ++ decimal n) (encode_utf8_all cs) (local-encode n is.1) is.0 refl;
  is = is.1;
  kind_is = refl;
  ends = refl;
}
found_of cs (runs.Label n) scalar is = record {
  kind = Label n;
  spells = spelled_same cs (codes "bb" ++ decimal n) (encode_utf8_all cs) (label-encode n is.1) is.0 refl;
  is = is.1;
  kind_is = refl;
  ends = refl;
}
found_of cs (runs.Word word) scalar is = record {
  kind = Word word;
  spells = spelled_same cs (word_spelling word) (encode_utf8_all cs) (word_spelling-plain word).bytes is refl;
  is = tt;
  kind_is = refl;
  ends = refl;
}
found_of cs runs.Name scalar is = record {
  kind = Name (encode_utf8_all cs);
  spells = chars-encodes cs scalar;
  is = is;
  kind_is = refl;
  ends = refl;
}

-- a run that is read is found
pub run_found : (cs : List ℕ) (run : Run) → all_scalars cs ≡ true → IsNameLike cs → run_in (encode_utf8_all cs) ≡ Some run → IsFound cs run
run_found cs run scalar like read =
    found_of cs run scalar (run_in-found (encode_utf8_all cs) run (cs, (scalar, refl)) (subst IsNameLike (sym (chars-encodes cs scalar)) like) read)

-- a token that is read from a run
pub record IsRunToken (kind : LexemeKind) : Type 0 where
  pub like : IsNameLike (spelling kind)
  pub run : Run
  pub read : run_in (encode_utf8_all (spelling kind)) ≡ Some run
  pub kind_is : run_kind run ≡ kind_of kind
  pub ends : lengthens kind ≡ is_xid_continue

pub name_run : (bytes : List ℕ) → IsName bytes → IsRunToken (Name bytes)
name_run bytes name = record {
  like = name.form;
  run = runs.Name;
  read = ap run_in (encodes-chars bytes name.utf8) ∙ run_in-name bytes name;
  kind_is = refl;
  ends = refl;
}

pub word_run : (word : words.Word) → IsRunToken (Word word)
word_run word =
    let plain = word_spelling-plain word in
    record {
      like = ascii_word_like (word_spelling word) plain.ascii;
      run = runs.Word word;
      read = ap run_in plain.bytes ∙ run_in-word word;
      kind_is = refl;
      ends = refl;
    }

pub local_run : (n : ℕ) → n ≤ 65535 → IsRunToken (Local n)
local_run n few = record {
  like = (rw (starts_name-ascii 95 (omega arith)) refl, digits_continue (decimal n) (decimal-digits n (omega arith)));
  run = runs.Local n;
  read = ap run_in (local-encode n few) ∙ run_in-local n few;
  kind_is = refl;
  ends = refl;
}

pub label_run : (n : ℕ) → n ≤ 65535 → IsRunToken (Label n)
label_run n few = record {
  like = (
    alphabetic_starts 98 refl,
    All-cons (λ c. is_xid_continue c ≡ true) 98 (decimal n) (alphanumeric_continues 98 refl) (digits_continue (decimal n) (decimal-digits n (omega arith))),
  );
  run = runs.Label n;
  read = ap run_in (label-encode n few) ∙ run_in-label n few;
  kind_is = refl;
  ends = refl;
}

-- what the bytes of a token spell
pub kind_by-spelling : (kind : LexemeKind) → IsToken kind → kind_by (kind_of kind) (encode_utf8_all (spelling kind)) ≡ kind
kind_by-spelling (Name bytes) is = ap Name (encodes-chars bytes is.utf8)
kind_by-spelling (Word word) is = rw ((word_spelling-plain word).bytes, word_in-word_spelling word) refl
kind_by-spelling (Local n) is = refl
kind_by-spelling (Label n) is = refl
kind_by-spelling (Number n) is = refl
kind_by-spelling (Punct punct) is = rw ((punct_spelling-mark punct).bytes, (punct_spelling-mark punct).found) refl
kind_by-spelling Other is = absurd is
