-- The canonical text is UTF-8, and its characters are those that were written.
use Rattle.std.proofs.Common.{◌≡◌, ℕ, ◌<◌, ◌^◌, Bool, true, false, cond, ltb, List, [], ◌∷◌, ◌++◌, refl, sym, ◌∙◌, ap, subst, arith, append-nil, append_assoc}
use Rattle.std.specs.Prelude.{flat_map, fold, codes}
use Rattle.std.specs.Fmt.{decimal}
use Rattle.std.specs.List.{list_all}
use Rattle.std.specs.Char.{is_ascii_alphabetic, is_ascii_alphanumeric}
use Rattle.std.specs.Str.{IsUtf8, IsAscii, chars, encode_utf8_all}
use Rattle.std.proofs.lemmas.Bool.{and_parts, ltb-true}
use Rattle.std.proofs.lemmas.Bool.Decides.{nat_tests}
use Rattle.std.proofs.lemmas.Fmt.{IsAscii-decimal}
use Rattle.std.proofs.lemmas.List.Elements.{All-weaker, All-cons}
use Rattle.std.proofs.lemmas.List.Sums.{AllPass-from_list_all}
use Rattle.std.proofs.lemmas.Str.{IsUtf8-nil, IsUtf8-append, IsUtf8-from_ascii, chars-nil, chars-append, chars-IsAscii, encodes-append, encodes-chars}
use Rattle.std.proofs.lemmas.Str.Ascii.{IsAscii-from_all}
use Rattle.mm_names.specs.Words.{word_spelling}
use Rattle.mm_names.proofs.WordSpellings.{word_spelling-plain, is_ascii_word}
use Rattle.mm_lex.specs.declared.punct.Punct as puncts
use Rattle.mm_lex.specs.declared.punct.Punct.TheVariants as punct
use Rattle.mm_lex.specs.Puncts.{punct_spelling}
use Rattle.mm_lex.specs.declared.token.Token as tokens
use Rattle.mm_lex.specs.Lexemes.{LexemeKind, Name, Word as OfWord, Local, Label, Number, Punct, Other, lexemes}
use Rattle.mm_lex.specs.Pieces.{Piece, Blank, spelling, IsToken, written}
use Rattle.mm_lex.specs.Positions.{past, text_start}
use Rattle.mm_lex.specs.Tokens.{AreTokensOf, tokens_from}
use Rattle.mm_lex.proofs.TextLaws.{AreTokensOf-one, lexemes-pieces}
use Rattle.mm_print.specs.declared.gap.Gap as gaps
use Rattle.mm_print.specs.declared.gap.Gap.TheVariants.{LineFeed, Nothing, OneBlank}
use Rattle.mm_shape.specs.Shapes.{AllTokens, kinds_of}
use Rattle.mm_print.specs.Canonical.{ends_line, passes, punct_of, gap_of, pieces_in, behind, parted, canonical, NoneJoin, ReadsAs}
use Rattle.mm_print.proofs.Cutting.{cut, kinds_stay}

-- the characters have bytes, and these have the characters
record AreKept (cs : List ℕ) : Type 0 where
  pub utf8 : IsUtf8 (encode_utf8_all cs)
  pub again : chars (encode_utf8_all cs) ≡ cs

kept_nil : AreKept []
kept_nil = record { utf8 = IsUtf8-nil; again = chars-nil }

kept_append : (xs ys : List ℕ) → AreKept xs → AreKept ys → AreKept (xs ++ ys)
kept_append xs ys a b =
    let same = encodes-append xs ys in
    record {
      utf8 = subst IsUtf8 (sym same) (IsUtf8-append (encode_utf8_all xs) (encode_utf8_all ys) a.utf8 b.utf8);
      again = ap chars same ∙ chars-append (encode_utf8_all xs) (encode_utf8_all ys) a.utf8 ∙ ap (λ z. z ++ chars (encode_utf8_all ys)) a.again ∙ ap (λ z. xs ++ z) b.again;
    }

kept_chars : (bytes : List ℕ) → IsUtf8 bytes → AreKept (chars bytes)
kept_chars bytes utf8 = let same = encodes-chars bytes utf8 in record { utf8 = subst IsUtf8 (sym same) utf8; again = ap chars same }

kept_ascii : (cs : List ℕ) → IsAscii cs → AreKept cs
kept_ascii cs ascii = subst AreKept (chars-IsAscii cs ascii) (kept_chars cs (IsUtf8-from_ascii cs ascii))

-- of characters below 128
pub small_ascii : (cs : List ℕ) → list_all (λ c. ltb c 128) cs ≡ true → IsAscii cs
small_ascii cs small = IsAscii-from_all cs (All-weaker (λ c. ltb c 128 ≡ true) (λ c. c < 128) (λ c is. ltb-true c 128 is) cs (AllPass-from_list_all (λ c. ltb c 128) cs small))

kept_small : (cs : List ℕ) → list_all (λ c. ltb c 128) cs ≡ true → AreKept cs
kept_small cs small = kept_ascii cs (small_ascii cs small)

kept_decimal : (n : ℕ) → n < 2 ^ 64 → AreKept (decimal n)
kept_decimal n small = kept_ascii (decimal n) (IsAscii-decimal n small)

pub word_ascii : (cs : List ℕ) → is_ascii_word cs ≡ true → IsAscii cs
word_ascii [] is = small_ascii [] refl
word_ascii (c ∷ cs) is =
    let parts = and_parts (is_ascii_alphabetic c) (list_all is_ascii_alphanumeric cs) is in
    IsAscii-from_all (c ∷ cs) (All-cons (λ d. d < 128) c cs (letter parts.0)
    (All-weaker (λ d. is_ascii_alphanumeric d ≡ true) (λ d. d < 128) other cs (AllPass-from_list_all is_ascii_alphanumeric cs parts.1)))
  where
    letter : is_ascii_alphabetic c ≡ true → c < 128
    letter h = grind (arith, nat_tests)

    other : (d : ℕ) → is_ascii_alphanumeric d ≡ true → d < 128
    other d h = grind (arith, nat_tests)

pub punct_ascii : (p : puncts.Punct) → IsAscii (punct_spelling p)
punct_ascii punct.PathSep = small_ascii (codes "::") refl
punct_ascii punct.Arrow = small_ascii (codes "->") refl
punct_ascii punct.FatArrow = small_ascii (codes "=>") refl
punct_ascii punct.Open = small_ascii (codes "(") refl
punct_ascii punct.Close = small_ascii (codes ")") refl
punct_ascii punct.OpenBrace = small_ascii (codes "{") refl
punct_ascii punct.CloseBrace = small_ascii (codes "}") refl
punct_ascii punct.OpenBracket = small_ascii (codes "[") refl
punct_ascii punct.CloseBracket = small_ascii (codes "]") refl
punct_ascii punct.Less = small_ascii (codes "<") refl
punct_ascii punct.Greater = small_ascii (codes ">") refl
punct_ascii punct.Comma = small_ascii (codes ",") refl
punct_ascii punct.Semicolon = small_ascii (codes ";") refl
punct_ascii punct.Colon = small_ascii (codes ":") refl
punct_ascii punct.Dot = small_ascii (codes ".") refl
punct_ascii punct.Star = small_ascii (codes "*") refl
punct_ascii punct.At = small_ascii (codes "@") refl
punct_ascii punct.Ampersand = small_ascii (codes "&") refl
punct_ascii punct.Equals = small_ascii (codes "=") refl

kept_token : (k : LexemeKind) → IsToken k → AreKept (spelling k)
kept_token (Name bytes) is = kept_chars bytes is.utf8
kept_token (OfWord word) is = kept_ascii (word_spelling word) (word_ascii (word_spelling word) (word_spelling-plain word).ascii)
kept_token (Local n) is = kept_append (codes "_") (decimal n) (kept_small (codes "_") refl) (kept_decimal n (omega arith))
kept_token (Label n) is = kept_append (codes "bb") (decimal n) (kept_small (codes "bb") refl) (kept_decimal n (omega arith))
kept_token (Number n) is = kept_decimal n is
kept_token (Punct p) is = kept_ascii (punct_spelling p) (punct_ascii p)
kept_token Other is = absurd is

kept_gap : (g : gaps.Gap) → AreKept (flat_map written (pieces_in g))
kept_gap LineFeed = kept_small (10 ∷ []) refl
kept_gap Nothing = kept_nil
kept_gap OneBlank = kept_small (32 ∷ []) refl

kept_behind : (k : LexemeKind) (ks : List LexemeKind) → AreKept (flat_map written (behind k ks))
kept_behind k [] = by (passes ends_line (punct_of k))
  where
    by : (b : Bool) → AreKept (flat_map written (cond b (Blank 10 ∷ []) []))
    by true = kept_gap LineFeed
    by false = kept_nil
kept_behind k (next ∷ ks) = kept_gap (gap_of (punct_of k) (punct_of next))

flat_map-append : (xs ys : List Piece) → flat_map written (xs ++ ys) ≡ flat_map written xs ++ flat_map written ys
flat_map-append [] ys = refl
flat_map-append (x ∷ xs) ys = ap (λ z. written x ++ z) (flat_map-append xs ys) ∙ sym (append_assoc (written x) (flat_map written xs) (flat_map written ys))

kept_parted : (ks : List LexemeKind) → AllTokens ks → AreKept (flat_map written (parted ks))
kept_parted [] a = kept_nil
kept_parted (k ∷ ks) a =
    kept_append (spelling k) (flat_map written (behind k ks ++ parted ks)) (kept_token k a.0)
    (subst AreKept (sym (flat_map-append (behind k ks) (parted ks))) (kept_append (flat_map written (behind k ks)) (flat_map written (parted ks)) (kept_behind k ks) (kept_parted ks a.1)))

-- the canonical text of tokens that do not join has these tokens
pub reads_as : (ks : List LexemeKind) → AllTokens ks → NoneJoin ks → ReadsAs ks (canonical ks)
reads_as ks a n =
    let kept = kept_parted ks a in
    let are : AreTokensOf (canonical ks) (tokens_from text_start (parted ks)) = record {
      utf8 = kept.utf8;
      end = fold past text_start (flat_map written (parted ks));
      read = record {
        pieces = parted ks;
        cut = cut ks a n;
        whole = append-nil (flat_map written (parted ks)) ∙ sym kept.again;
        are = refl;
        behind = refl;
      };
    } in
    record {
      tokens = tokens_from text_start (parted ks);
      are = are;
      spell = ap kinds_of (lexemes-pieces (canonical ks) (tokens_from text_start (parted ks)) are) ∙ kinds_stay ks text_start;
    }

-- and it is the canonical text of these
pub canonical_again : (ks : List LexemeKind) (tokens : List tokens.Token) → AllTokens ks → NoneJoin ks → AreTokensOf (canonical ks) tokens → canonical (kinds_of (lexemes (canonical ks) tokens)) ≡ canonical ks
canonical_again ks tokens a n are =
    let reads = reads_as ks a n in
    ap (λ ts. canonical (kinds_of (lexemes (canonical ks) ts))) (AreTokensOf-one (canonical ks) tokens reads.tokens are reads.are) ∙ ap canonical reads.spell
