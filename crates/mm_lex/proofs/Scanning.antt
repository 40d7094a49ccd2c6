-- Reading a text piece by piece.
use Rattle.std.proofs.Common.{◌≡◌, ℕ, ◌+◌, ◌<◌, ◌≤◌, List, [], ◌∷◌, ◌++◌, length, take, drop, Option, Some, None, IsUtf8, refl, sym, ap, ◌∙◌, subst, arith}
use Rattle.std.specs.Prelude.{fold, slice_index}
use Rattle.std.specs.Str.{chars, encode_utf8_all, all_scalars, IsCharBoundary}
use Rattle.std.specs.Str.Lossy.{utf8_valid_len}
use Rattle.std.proofs.lemmas.List.{take_all, length-take}
use Rattle.std.proofs.lemmas.Str.{encodes-chars, scalars-chars, chars-encodes, encodes-append, length-le-encodes, IsCharBoundary-at_seam, utf8_valid_len-IsUtf8}
use Rattle.mm_names.proofs.Prefixes.{take-prefix, drop-prefix, all_scalars-parts}
use Rattle.mm_lex.specs.declared.position.Position.{Position}
use Rattle.mm_lex.specs.declared.text_fault.TextRule.{TextRule}
use Rattle.mm_lex.specs.declared.text_fault.TextRule.TheVariants.{Utf8}
use Rattle.mm_lex.specs.declared.text_fault.TextFault.{TextFault}
use Rattle.mm_lex.specs.declared.text_fault.TextFault.TheVariants.{BadText, NoMemory}
use Rattle.mm_lex.specs.declared.token.TokenKind.{TokenKind}
use Rattle.mm_lex.specs.declared.token.Token.{Token}
use Rattle.mm_lex.specs.Pieces.{written}
use Rattle.mm_lex.specs.Positions.{past, text_start}
use Rattle.mm_lex.specs.Tokens.{IsRead, AreTokensOf, rule_at, IsFaultAt, IsLexicalFault, IsFaultOf}
use Rattle.mm_lex.specs.FirstPieces.{prefix_in}
use Rattle.mm_lex.proofs.PieceLaws.{Found, prefix_in-found}
use Rattle.mm_lex.proofs.TextLaws.{onto, IsRead-start, IsRead-step, prefix_in-stuck, valid_chars-chars, utf8_valid_front}

-- Some tokens were read, and the rest of the text stands at a position.
pub record IsScanned (text : List ℕ) (tokens : List Token) (at : Position) (rest : List ℕ) : Type 0 where
  pub text_utf8 : IsUtf8 text
  pub utf8 : IsUtf8 rest
  pub read : IsRead (chars text) tokens at (chars rest)
  pub offset : at.offset + length rest ≡ length text
  pub line : at.line + length rest ≤ length text + 1
  pub column : at.column + length rest ≤ length text + 1

pub IsScanned-start : (text : List ℕ) → IsUtf8 text → IsScanned text [] text_start text
IsScanned-start text utf8 = record {
  text_utf8 = utf8;
  utf8 = utf8;
  read = IsRead-start (chars text);
  offset = omega arith;
  line = omega arith;
  column = omega arith;
}

-- the piece with which the rest begins, by its bytes
pub record IsSplit (rest : List ℕ) (kind : Option TokenKind) (n : ℕ) : Type 0 where
  pub found : Found (chars rest) kind n
  pub boundary : IsCharBoundary rest n
  pub passed : chars (take n rest) ≡ written found.piece
  pub left : chars (drop n rest) ≡ found.rest
  pub left_utf8 : IsUtf8 (drop n rest)
  pub some : 0 < n

pub split_off : (rest : List ℕ) (kind : Option TokenKind) (n : ℕ) → IsUtf8 rest → prefix_in (chars rest) ≡ Some (kind, n) → IsSplit rest kind n
split_off rest kind n utf8 read =
    let scalar = scalars-chars rest utf8 in
    let found = prefix_in-found (chars rest) kind n scalar read in
    let front = encode_utf8_all (written found.piece) in
    let behind = encode_utf8_all found.rest in
    let whole : rest ≡ front ++ behind = sym (encodes-chars rest utf8) ∙ ap encode_utf8_all (sym found.whole) ∙ encodes-append (written found.piece) found.rest in
    let parts = all_scalars-parts (written found.piece) found.rest (ap all_scalars found.whole ∙ scalar) in
    let left : drop n rest ≡ behind = ap (drop n) whole ∙ drop-prefix front behind n (sym found.bytes) in
    record {
      found = found;
      boundary = subst (IsCharBoundary rest) found.bytes (IsCharBoundary-at_seam rest front behind whole (found.rest, (parts.1, refl)));
      passed = ap chars (ap (take n) whole ∙ take-prefix front behind n (sym found.bytes)) ∙ chars-encodes (written found.piece) parts.0;
      left = ap chars left ∙ chars-encodes found.rest parts.1;
      left_utf8 = subst IsUtf8 (sym left) (found.rest, (parts.1, refl));
      some = omega (arith, found.some, found.bytes, length-le-encodes (written found.piece));
    }

-- a step over the piece with which the rest begins
pub IsScanned-step : (text : List ℕ) (tokens : List Token) (at behind : Position) (rest passed left : List ℕ) (kind : Option TokenKind) (n : ℕ) → IsScanned text tokens at rest → IsSplit rest kind n → passed ≡ take n rest → left ≡ drop n rest → length left + length passed ≡ length rest → behind ≡ fold past at (chars passed) → behind.offset ≡ at.offset + length passed → behind.line ≤ at.line + length passed → behind.column ≤ at.column + length passed → IsScanned text (tokens ++ onto kind at behind []) behind left
IsScanned-step text tokens at behind rest passed left kind n scanned split passed_is left_is parts is offset line column =
    let piece = written split.found.piece in
    let same : behind ≡ fold past at piece = is ∙ ap (λ bs. fold past at (chars bs)) passed_is ∙ ap (fold past at) split.passed in
    let step = IsRead-step (chars text) (chars rest) tokens at kind n scanned.read split.found in
    let moved = subst (λ (p : Position). IsRead (chars text) (tokens ++ onto kind at p []) p split.found.rest) (sym same) step in
    record {
      text_utf8 = scanned.text_utf8;
      utf8 = subst IsUtf8 (sym left_is) split.left_utf8;
      read = subst (IsRead (chars text) (tokens ++ onto kind at behind []) behind) (sym (ap chars left_is ∙ split.left)) moved;
      offset = omega (arith, scanned.offset, parts, offset);
      line = omega (arith, scanned.line, parts, line);
      column = omega (arith, scanned.column, parts, column);
    }

-- at the end, the tokens are whole
pub IsScanned-end : (text : List ℕ) (tokens : List Token) (at : Position) (rest : List ℕ) → IsScanned text tokens at rest → length rest ≡ 0 → IsRead (chars text) tokens at []
unfolding chars
IsScanned-end text tokens at [] scanned none = scanned.read
IsScanned-end text tokens at (b ∷ bs) scanned none = absurd (omega (arith, none))

-- where no piece stands, the fault is that of the first character
fault_here : (text cs : List ℕ) → 0 < length cs → prefix_in cs ≡ None → IsFaultAt text cs (rule_at (slice_index cs 0))
fault_here text [] some none = absurd (omega (arith, some))
fault_here text (c ∷ cs) some none = (refl, prefix_in-stuck (c ∷ cs) none)

some_chars : (rest : List ℕ) → IsUtf8 rest → 0 < length rest → 0 < length (chars rest)
some_chars rest utf8 some = by_chars (chars rest) refl
  where
    by_chars : (cs : List ℕ) → chars rest ≡ cs → 0 < length cs
    by_chars [] is = absurd (omega (arith, some, ap length (sym (encodes-chars rest utf8) ∙ ap encode_utf8_all is)))
    by_chars (c ∷ cs) is = omega arith

pub IsScanned-fault : (text : List ℕ) (tokens : List Token) (at : Position) (rest : List ℕ) (rule : TextRule) → IsScanned text tokens at rest → 0 < length rest → prefix_in (chars rest) ≡ None → rule ≡ rule_at (slice_index (chars rest) 0) → IsLexicalFault text rule at.line at.column
IsScanned-fault text tokens at rest rule scanned some none is = record {
  tokens = tokens;
  offset = at.offset;
  rest = chars rest;
  read = subst (λ cs. IsRead cs tokens at (chars rest)) (sym (valid_chars-chars text scanned.text_utf8)) scanned.read;
  fault = subst (IsFaultAt text (chars rest)) (sym is) (fault_here text (chars rest) (some_chars rest scanned.utf8 some) none);
}

-- what is at fault in the longest front is at fault in the text
front_fault : (text front rest : List ℕ) (rule : TextRule) → IsUtf8 front → IsFaultAt front rest rule → IsFaultAt text rest rule
front_fault text front [] rule utf8 fault = absurd (fault.1 utf8)
front_fault text front (c ∷ cs) rule utf8 fault = fault

pub IsFaultOf-front : (text front : List ℕ) (fault : TextFault) → front ≡ take (utf8_valid_len text) text → IsFaultOf front fault → IsFaultOf text fault
IsFaultOf-front text front (BadText line column rule) is fault =
    let utf8 = subst IsUtf8 (sym is) (utf8_valid_front text) in
    record {
      tokens = fault.tokens;
      offset = fault.offset;
      rest = fault.rest;
      read = subst (λ cs. IsRead cs fault.tokens (record { offset = fault.offset; line = line; column = column }) fault.rest) (valid_chars-chars front utf8 ∙ ap chars is) fault.read;
      fault = front_fault text front fault.rest rule utf8 fault.fault;
    }
IsFaultOf-front text front NoMemory is fault = tt

-- where the longest front is not the whole text, it ends in a fault
pub front_short : (text front : List ℕ) (tokens : List Token) (at : Position) → front ≡ take (utf8_valid_len text) text → length front < length text → IsRead (chars front) tokens at [] → IsLexicalFault text Utf8 at.line at.column
front_short text front tokens at is short read = record {
  tokens = tokens;
  offset = at.offset;
  rest = [];
  read = subst (λ cs. IsRead cs tokens at []) (ap chars is) read;
  fault = (
    refl,
    λ utf8.
        let whole : take (utf8_valid_len text) text ≡ text = take_all (utf8_valid_len text) text (omega (arith, utf8_valid_len-IsUtf8 text utf8)) in
        omega (arith, short, ap length (is ∙ whole)),
  );
}

pub front_whole : (text front : List ℕ) → front ≡ take (utf8_valid_len text) text → length text ≤ length front → front ≡ text
front_whole text front is long =
    is ∙ take_all (utf8_valid_len text) text (omega (arith, long, ap length is, length-take (utf8_valid_len text) text))

pub AreTokensOf-front : (text front : List ℕ) (tokens : List Token) (at : Position) → front ≡ take (utf8_valid_len text) text → length text ≤ length front → IsRead (chars front) tokens at [] → AreTokensOf text tokens
AreTokensOf-front text front tokens at is long read =
    let same = front_whole text front is long in
    record {
      utf8 = subst IsUtf8 (sym is ∙ same) (utf8_valid_front text);
      end = at;
      read = subst (λ bs. IsRead (chars bs) tokens at []) same read;
    }

pub whole_front : (text : List ℕ) → IsUtf8 text → text ≡ take (utf8_valid_len text) text
whole_front text utf8 = sym (take_all (utf8_valid_len text) text (omega (arith, utf8_valid_len-IsUtf8 text utf8)))
