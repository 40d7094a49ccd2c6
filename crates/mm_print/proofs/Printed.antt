-- What is printed for tokens is their canonical text.
use Rattle.std.proofs.Common.{◌≡◌, ℕ, ◌<◌, ◌^◌, Bool, true, false, cond, List, [], ◌∷◌, ◌++◌, refl, sym, ◌∙◌, ap, arith}
use Rattle.std.specs.Prelude.{flat_map, codes}
use Rattle.std.specs.Fmt.{decimal}
use Rattle.std.specs.Str.{encode_utf8_all}
use Rattle.std.proofs.lemmas.Fmt.{IsAscii-decimal}
use Rattle.std.proofs.lemmas.List.Concat.{flat_map-append}
use Rattle.std.proofs.lemmas.Str.{encodes-IsAscii, encodes-append, encodes-chars}
use Rattle.mm_names.specs.Words.{word_spelling}
use Rattle.mm_names.proofs.WordSpellings.{word_spelling-plain}
use Rattle.mm_lex.specs.Puncts.{punct_spelling}
use Rattle.mm_lex.specs.Lexemes.{LexemeKind, Name, Word, Local, Label, Number, Punct, Other}
use Rattle.mm_lex.specs.Pieces.{Blank, spelling, IsToken, written}
use Rattle.mm_print.specs.declared.gap.Gap as gaps
use Rattle.mm_print.specs.declared.gap.Gap.TheVariants.{LineFeed, Nothing, OneBlank}
use Rattle.mm_shape.specs.Shapes.{AllTokens}
use Rattle.mm_print.specs.Canonical.{ends_line, passes, punct_of, gap_of, pieces_in, behind, parted, canonical}
use Rattle.mm_print.specs.Printed.{token_bytes, gap_bytes, gap_behind, printed}
use Rattle.mm_print.proofs.Written.{small_ascii, word_ascii, punct_ascii}

decimal_bytes : (n : ℕ) → n < 2 ^ 64 → encode_utf8_all (decimal n) ≡ decimal n
decimal_bytes n small = encodes-IsAscii (decimal n) (IsAscii-decimal n small)

numbered_bytes : (prefix : List ℕ) (n : ℕ) → encode_utf8_all prefix ≡ prefix → n < 2 ^ 64 → encode_utf8_all (prefix ++ decimal n) ≡ prefix ++ decimal n
numbered_bytes prefix n same small =
    encodes-append prefix (decimal n) ∙ ap (λ z. z ++ encode_utf8_all (decimal n)) same ∙ ap (λ z. prefix ++ z) (decimal_bytes n small)

spelling_bytes : (k : LexemeKind) → IsToken k → encode_utf8_all (spelling k) ≡ token_bytes k
spelling_bytes (Name bytes) is = encodes-chars bytes is.utf8
spelling_bytes (Word word) is = encodes-IsAscii (word_spelling word) (word_ascii (word_spelling word) (word_spelling-plain word).ascii)
spelling_bytes (Local n) is = numbered_bytes (codes "_") n (encodes-IsAscii (codes "_") (small_ascii (codes "_") refl)) (omega arith)
spelling_bytes (Label n) is = numbered_bytes (codes "bb") n (encodes-IsAscii (codes "bb") (small_ascii (codes "bb") refl)) (omega arith)
spelling_bytes (Number n) is = decimal_bytes n is
spelling_bytes (Punct p) is = encodes-IsAscii (punct_spelling p) (punct_ascii p)
spelling_bytes Other is = absurd is

pieces_bytes : (g : gaps.Gap) → encode_utf8_all (flat_map written (pieces_in g)) ≡ gap_bytes g
pieces_bytes LineFeed = encodes-IsAscii (10 ∷ []) (small_ascii (10 ∷ []) refl)
pieces_bytes Nothing = encodes-IsAscii [] (small_ascii [] refl)
pieces_bytes OneBlank = encodes-IsAscii (32 ∷ []) (small_ascii (32 ∷ []) refl)

behind_bytes : (k : LexemeKind) (ks : List LexemeKind) → encode_utf8_all (flat_map written (behind k ks)) ≡ gap_bytes (gap_behind k ks)
behind_bytes k [] = by (passes ends_line (punct_of k))
  where
    by : (b : Bool) → encode_utf8_all (flat_map written (cond b (Blank 10 ∷ []) [])) ≡ gap_bytes (cond b LineFeed Nothing)
    by true = pieces_bytes LineFeed
    by false = pieces_bytes Nothing
behind_bytes k (next ∷ ks) = pieces_bytes (gap_of (punct_of k) (punct_of next))

canonical_bytes : (ks : List LexemeKind) → AllTokens ks → canonical ks ≡ printed ks
canonical_bytes [] a = encodes-IsAscii [] (small_ascii [] refl)
canonical_bytes (k ∷ ks) a =
    encodes-append (spelling k) (flat_map written (behind k ks ++ parted ks))
    ∙ ap (λ z. z ++ encode_utf8_all (flat_map written (behind k ks ++ parted ks))) (spelling_bytes k a.0)
    ∙ ap (λ z. token_bytes k ++ encode_utf8_all z) (flat_map-append written (behind k ks) (parted ks))
    ∙ ap (λ z. token_bytes k ++ z) (encodes-append (flat_map written (behind k ks)) (flat_map written (parted ks)))
    ∙ ap (λ z. token_bytes k ++ (z ++ encode_utf8_all (flat_map written (parted ks)))) (behind_bytes k ks)
    ∙ ap (λ z. token_bytes k ++ (gap_bytes (gap_behind k ks) ++ z)) (canonical_bytes ks a.1)

-- the bytes of tokens that there are, one after the other, are those of the characters
pub printed_canonical : (ks : List LexemeKind) → AllTokens ks → printed ks ≡ canonical ks
printed_canonical ks a = sym (canonical_bytes ks a)
