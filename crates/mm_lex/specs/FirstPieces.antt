-- With what a text begins, as the lexer finds it.
use Rattle.std.specs.Prelude.{ℕ, ◌-◌, ◌^◌, ◌==◌, ◌&&◌, Bool, List, length, if◌then◌else◌, Option, Some, None, take, slice_index}
use Rattle.std.specs.List.{prefix_len}
use Rattle.std.specs.Option.{option_map}
use Rattle.std.specs.Char.{is_ascii_digit}
use Rattle.std.specs.Str.{encode_utf8_all}
use Rattle.unicode_ident.specs.Ident.{is_xid_continue}
use Rattle.mm_names.specs.declared.run.Run.{Run}
use Rattle.mm_names.specs.declared.run.Run.TheVariants as runs
use Rattle.mm_names.specs.Decimals.{number_in}
use Rattle.mm_names.specs.Names.{starts_name}
use Rattle.mm_names.specs.Runs.{run_in}
use Rattle.mm_lex.specs.declared.punct.Punct.{Punct}
use Rattle.mm_lex.specs.declared.punct.Punct.TheVariants as puncts
use Rattle.mm_lex.specs.declared.token.TokenKind.{TokenKind}
use Rattle.mm_lex.specs.declared.token.TokenKind.TheVariants as kinds
use Rattle.mm_lex.specs.Puncts.{punct_spelling}
use Rattle.mm_lex.specs.Pieces.{is_blank, is_within_line}

-- the bytes of the longest prefix that passes a test
abbrev pub front : (ℕ → Bool) → List ℕ → List ℕ
front test text = encode_utf8_all (take (prefix_len test text) text)

-- the kind of a run
abbrev pub run_kind : Run → TokenKind
run_kind (runs.Local n) = kinds.Local n
run_kind (runs.Label n) = kinds.Label n
run_kind (runs.Word word) = kinds.Word
run_kind runs.Name = kinds.Name

-- the punctuation token that two characters begin with
abbrev pub punct_at : ℕ → ℕ → Option Punct
punct_at c d =
    if (c == 58) && (d == 58) then Some puncts.PathSep
    else (if (c == 45) && (d == 62) then Some puncts.Arrow
    else (if (c == 61) && (d == 62) then Some puncts.FatArrow
    else (if c == 40 then Some puncts.Open
    else (if c == 41 then Some puncts.Close
    else (if c == 123 then Some puncts.OpenBrace
    else (if c == 125 then Some puncts.CloseBrace
    else (if c == 60 then Some puncts.Less
    else (if c == 62 then Some puncts.Greater
    else (if c == 91 then Some puncts.OpenBracket
    else (if c == 93 then Some puncts.CloseBracket
    else (if c == 44 then Some puncts.Comma
    else (if c == 59 then Some puncts.Semicolon
    else (if c == 58 then Some puncts.Colon
    else (if c == 46 then Some puncts.Dot
    else (if c == 42 then Some puncts.Star
    else (if c == 64 then Some puncts.At
    else (if c == 38 then Some puncts.Ampersand
    else (if c == 61 then Some puncts.Equals
    else None))))))))))))))))))

-- the punctuation token with which a text begins
unfoldable pub first_punct : List ℕ → Option Punct
first_punct text = punct_at (slice_index text 0) (slice_index text 1)

-- a token of so many bytes, where there is one
abbrev pub with_length : ℕ → Option TokenKind → Option (Option TokenKind × ℕ)
with_length n None = None
with_length n (Some kind) = Some (Some kind, n)

-- the longest prefix of characters that a name may have
abbrev pub run_at : List ℕ → Option (Option TokenKind × ℕ)
run_at text = let run = front is_xid_continue text in with_length (length run) (option_map run_kind (run_in run))

-- the longest prefix of digits
abbrev pub number_at : List ℕ → Option (Option TokenKind × ℕ)
number_at text = let digits = front is_ascii_digit text in with_length (length digits) (option_map kinds.Number (number_in (2 ^ 64 - 1) digits))

abbrev pub punct_prefix : Option Punct → Option (Option TokenKind × ℕ)
punct_prefix None = None
punct_prefix (Some punct) = Some (Some kinds.Punct, length (punct_spelling punct))

abbrev pub begins_comment : List ℕ → Bool
begins_comment text = (slice_index text 0 == 47) && (slice_index text 1 == 47)

-- With what a text begins: a token or, as `None`, a blank or a comment; and how many bytes it takes.
unfoldable pub prefix_in : List ℕ → Option (Option TokenKind × ℕ)
prefix_in text =
    if is_blank (slice_index text 0) then Some (None, 1)
    else (if begins_comment text then Some (None, length (front is_within_line text))
    else (if starts_name (slice_index text 0) then run_at text
    else (if is_ascii_digit (slice_index text 0) then number_at text
    else punct_prefix (first_punct text))))
