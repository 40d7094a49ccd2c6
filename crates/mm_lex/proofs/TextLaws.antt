-- The tokens of a text, step by step, and that there is one reading and one fault.
use Rattle.std.proofs.Common.{◌≡◌, ℕ, zero, suc, Bool, false, cond, ◌+◌, ◌-◌, List, [], ◌∷◌, ◌++◌, length, take, drop, true, All, IsUtf8, Option, Some, None, refl, sym, ap, ◌∙◌, subst, arith, append_assoc, append-nil, length-append}
use Rattle.std.specs.Prelude.{fold, flat_map}
use Rattle.std.specs.Char.{encode_utf8}
use Rattle.std.specs.Str.{all_scalars, chars, encode_utf8_all, is_utf8}
use Rattle.std.specs.Str.Lossy.{utf8_valid_len, valid_len_up_to}
use Rattle.std.proofs.lemmas.Option.{some_pair_parts, none-some}
use Rattle.std.proofs.lemmas.Str.{encodes-append, encodes_same, encodes-chars, scalars-chars, length-encode, utf8_valid_len-IsUtf8, IsUtf8-nil, IsUtf8-from_is_utf8}
use Rattle.mm_lex.proofs.PositionLaws.{one_step}
use Rattle.std.proofs.lemmas.List.{take_all}
use Rattle.std.proofs.lemmas.List.Elements.{All-nil, All-cons}
use Rattle.mm_names.specs.Prefixes.{StopsAt}
use Rattle.mm_names.proofs.Prefixes.{take-prefix, drop-prefix, all_scalars-parts}
use Rattle.mm_lex.specs.declared.position.Position.{Position}
use Rattle.mm_lex.specs.declared.text_fault.TextRule.{TextRule}
use Rattle.mm_lex.specs.declared.token.TokenKind.{TokenKind}
use Rattle.mm_lex.specs.declared.token.Token as tokens
use Rattle.mm_lex.specs.Lexemes.{span, kind_by, lexemes}
use Rattle.mm_lex.specs.Pieces.{Piece, Blank, Comment, Token, spelling, written, IsPiece, goes_on, AreCut}
use Rattle.mm_lex.specs.Positions.{past, text_start}
use Rattle.mm_lex.specs.Tokens.{kind_of, token_at, tokens_from, lexemes_from, IsRead, AreTokensOf, IsLexeme, valid_chars, IsStuck, IsFaultAt, IsLexicalFault}
use Rattle.mm_lex.specs.FirstPieces.{prefix_in}
use Rattle.mm_lex.proofs.KindLemmas.{kind_by-spelling}
use Rattle.mm_lex.proofs.PieceLaws.{piece_kind, piece_bytes, Found, prefix_in-found, prefix_in-written, prefix_in-nil}

-- the token between two positions, where there is one, before others
abbrev pub onto : Option TokenKind → Position → Position → List tokens.Token → List tokens.Token
onto None at behind tokens = tokens
onto (Some kind) at behind tokens = token_at kind at behind ∷ tokens

tokens_from-cons : (at : Position) (piece : Piece) (pieces : List Piece) → tokens_from at (piece ∷ pieces) ≡ onto (piece_kind piece) at (fold past at (written piece)) (tokens_from (fold past at (written piece)) pieces)
tokens_from-cons at (Blank c) pieces = refl
tokens_from-cons at (Comment line) pieces = refl
tokens_from-cons at (Token kind) pieces = refl

fold-append : (at : Position) (xs ys : List ℕ) → fold past at (xs ++ ys) ≡ fold past (fold past at xs) ys
fold-append at [] ys = refl
fold-append at (x ∷ xs) ys = fold-append (past at x) xs ys

onto-append : (kind : Option TokenKind) (at behind : Position) (tokens more : List tokens.Token) → onto kind at behind tokens ++ more ≡ onto kind at behind (tokens ++ more)
onto-append None at behind tokens more = refl
onto-append (Some kind) at behind tokens more = refl

-- a piece behind others
written-last : (pieces : List Piece) (piece : Piece) (rest : List ℕ) → flat_map written (pieces ++ (piece ∷ [])) ++ rest ≡ flat_map written pieces ++ (written piece ++ rest)
written-last [] piece rest = ap (λ cs. cs ++ rest) (append-nil (written piece))
written-last (p ∷ ps) piece rest =
    append_assoc (written p) (flat_map written (ps ++ (piece ∷ []))) rest
    ∙ ap (λ cs. written p ++ cs) (written-last ps piece rest)
    ∙ sym (append_assoc (written p) (flat_map written ps) (written piece ++ rest))

cut-last : (pieces : List Piece) (piece : Piece) (rest : List ℕ) → AreCut pieces (written piece ++ rest) → IsPiece piece → StopsAt (goes_on piece) rest → AreCut (pieces ++ (piece ∷ [])) rest
cut-last [] piece rest cut is stops = (is, stops, tt)
cut-last (p ∷ ps) piece rest cut is stops =
    (cut.0, subst (StopsAt (goes_on p)) (sym (written-last ps piece rest)) cut.1, cut-last ps piece rest cut.2 is stops)

tokens-last : (at : Position) (pieces : List Piece) (piece : Piece) → tokens_from at (pieces ++ (piece ∷ [])) ≡ tokens_from at pieces ++ onto (piece_kind piece) (fold past at (flat_map written pieces)) (fold past (fold past at (flat_map written pieces)) (written piece)) []
tokens-last at [] piece = tokens_from-cons at piece []
tokens-last at (p ∷ ps) piece =
    let behind = fold past at (written p) in
    let end = fold past behind (flat_map written ps) in
    let same : end ≡ fold past at (written p ++ flat_map written ps) = sym (fold-append at (written p) (flat_map written ps)) in
    tokens_from-cons at p (ps ++ (piece ∷ []))
    ∙ ap (onto (piece_kind p) at behind) (tokens-last behind ps piece)
    ∙ sym (onto-append (piece_kind p) at behind (tokens_from behind ps) (onto (piece_kind piece) end (fold past end (written piece)) []))
    ∙ (λ i. sym (tokens_from-cons at p ps) i ++ onto (piece_kind piece) (same i) (fold past (same i) (written piece)) [])

pub IsRead-start : (text : List ℕ) → IsRead text [] text_start text
IsRead-start text = record { pieces = []; cut = tt; whole = refl; are = refl; behind = refl }

-- the piece with which the rest begins, behind those that are read
pub IsRead-step : (text rest : List ℕ) (tokens : List tokens.Token) (at : Position) (kind : Option TokenKind) (n : ℕ) → IsRead text tokens at rest → (found : Found rest kind n) → IsRead text (tokens ++ onto kind at (fold past at (written found.piece)) []) (fold past at (written found.piece)) found.rest
IsRead-step text rest tokens at kind n read found =
    let whole = flat_map written read.pieces in
    record {
      pieces = read.pieces ++ (found.piece ∷ []);
      cut = cut-last read.pieces found.piece found.rest (subst (AreCut read.pieces) (sym found.whole) read.cut) found.is found.stops;
      whole = written-last read.pieces found.piece found.rest ∙ ap (λ cs. whole ++ cs) found.whole ∙ read.whole;
      are =
          tokens-last text_start read.pieces found.piece
          ∙ (λ i. read.are i ++ onto (found.kind_is i) (read.behind i) (fold past (read.behind i) (written found.piece)) []);
      behind = ap (fold past text_start) (sym (append-nil _) ∙ written-last read.pieces found.piece [] ∙ ap (λ cs. whole ++ cs) (append-nil (written found.piece))) ∙ fold-append text_start whole (written found.piece) ∙ ap (λ p. fold past p (written found.piece)) read.behind;
    }

-- no piece stands where none is found, and the other way round
pub prefix_in-none : (rest : List ℕ) → all_scalars rest ≡ true → IsStuck rest → prefix_in rest ≡ None
prefix_in-none rest scalar stuck = by_prefix (prefix_in rest) refl
  where
    by_prefix : (r : Option (Option TokenKind × ℕ)) → prefix_in rest ≡ r → prefix_in rest ≡ None
    by_prefix None is = is
    by_prefix (Some (kind, n)) is = let found = prefix_in-found rest kind n scalar is in absurd (stuck found.piece found.rest found.is found.stops found.whole)

pub prefix_in-stuck : (rest : List ℕ) → prefix_in rest ≡ None → IsStuck rest
prefix_in-stuck rest none = λ piece after is stops same. none-some (piece_kind piece, piece_bytes piece) (sym none ∙ ap prefix_in (sym same) ∙ prefix_in-written piece after is stops)

-- pieces up to where none stands that spell the same give the same tokens, and stop at the same rest
pub record AreSame (at : Position) (ps qs : List Piece) (rest rest' : List ℕ) : Type 0 where
  pub tokens : tokens_from at ps ≡ tokens_from at qs
  pub rest_same : rest ≡ rest'
  pub written_same : flat_map written ps ≡ flat_map written qs

-- the bytes of the first parts tell where two equal texts are split
split_same : (xs ys zs ws : List ℕ) → xs ++ ys ≡ zs ++ ws → length (encode_utf8_all xs) ≡ length (encode_utf8_all zs) → (xs ≡ zs) × (ys ≡ ws)
split_same xs ys zs ws same long =
    let bytes : encode_utf8_all xs ++ encode_utf8_all ys ≡ encode_utf8_all zs ++ encode_utf8_all ws =
    sym (encodes-append xs ys) ∙ ap encode_utf8_all same ∙ encodes-append zs ws in
    let n = length (encode_utf8_all xs) in (
      encodes_same xs zs (sym (take-prefix (encode_utf8_all xs) (encode_utf8_all ys) n refl) ∙ ap (take n) bytes ∙ take-prefix (encode_utf8_all zs) (encode_utf8_all ws) n long),
      encodes_same ys ws (sym (drop-prefix (encode_utf8_all xs) (encode_utf8_all ys) n refl) ∙ ap (drop n) bytes ∙ drop-prefix (encode_utf8_all zs) (encode_utf8_all ws) n long),
    )

pub one_cut : (ps qs : List Piece) (rest rest' : List ℕ) → AreCut ps rest → AreCut qs rest' → prefix_in rest ≡ None → prefix_in rest' ≡ None → flat_map written ps ++ rest ≡ flat_map written qs ++ rest' → (at : Position) → AreSame at ps qs rest rest'
one_cut [] [] rest rest' cut cut' none none' same at = record { tokens = refl; rest_same = same; written_same = refl }
one_cut [] (q ∷ qs) rest rest' cut cut' none none' same at =
    let more = flat_map written qs ++ rest' in
    let same : rest ≡ written q ++ more = same ∙ append_assoc (written q) (flat_map written qs) rest' in
    absurd (none-some (piece_kind q, piece_bytes q) (sym none ∙ ap prefix_in same ∙ prefix_in-written q more cut'.0 cut'.1))
one_cut (p ∷ ps) [] rest rest' cut cut' none none' same at =
    let more = flat_map written ps ++ rest in
    let same : rest' ≡ written p ++ more = sym same ∙ append_assoc (written p) (flat_map written ps) rest in
    absurd (none-some (piece_kind p, piece_bytes p) (sym none' ∙ ap prefix_in same ∙ prefix_in-written p more cut.0 cut.1))
one_cut (p ∷ ps) (q ∷ qs) rest rest' cut cut' none none' same at =
    let more = flat_map written ps ++ rest in
    let more' = flat_map written qs ++ rest' in
    let same : written p ++ more ≡ written q ++ more' = sym (append_assoc (written p) (flat_map written ps) rest) ∙ same ∙ append_assoc (written q) (flat_map written qs) rest' in
    let prefixes = sym (prefix_in-written p more cut.0 cut.1) ∙ ap prefix_in same ∙ prefix_in-written q more' cut'.0 cut'.1 in
    let parts = some_pair_parts (piece_kind p) (piece_kind q) (piece_bytes p) (piece_bytes q) prefixes in
    let pieces = split_same (written p) more (written q) more' same parts.1 in
    let others = one_cut ps qs rest rest' cut.2 cut'.2 none none' pieces.1 (fold past at (written q)) in
    record {
      tokens =
          tokens_from-cons at p ps
          ∙ (λ i. onto (parts.0 i) at (fold past at (pieces.0 i)) (tokens_from (fold past at (pieces.0 i)) ps))
          ∙ ap (onto (piece_kind q) at (fold past at (written q))) others.tokens
          ∙ sym (tokens_from-cons at q qs);
      rest_same = others.rest_same;
      written_same = λ i. pieces.0 i ++ others.written_same i;
    }

-- two readings up to where no piece stands are one
pub record AreOne (tokens tokens' : List tokens.Token) (at at' : Position) (rest rest' : List ℕ) : Type 0 where
  pub tokens_same : tokens ≡ tokens'
  pub at_same : at ≡ at'
  pub rest_same : rest ≡ rest'

pub one_read : (text : List ℕ) (tokens tokens' : List tokens.Token) (at at' : Position) (rest rest' : List ℕ) → IsRead text tokens at rest → IsRead text tokens' at' rest' → prefix_in rest ≡ None → prefix_in rest' ≡ None → AreOne tokens tokens' at at' rest rest'
one_read text tokens tokens' at at' rest rest' read read' none none' =
    let one = one_cut read.pieces read'.pieces rest rest' read.cut read'.cut none none' (read.whole ∙ sym read'.whole) text_start in
    record {
      tokens_same = sym read.are ∙ one.tokens ∙ read'.are;
      at_same = sym read.behind ∙ ap (fold past text_start) one.written_same ∙ read'.behind;
      rest_same = one.rest_same;
    }

pub AreTokensOf-one : (text : List ℕ) (a b : List tokens.Token) → AreTokensOf text a → AreTokensOf text b → a ≡ b
AreTokensOf-one text a b have other = (one_read (chars text) a b have.end other.end [] [] have.read other.read prefix_in-nil prefix_in-nil).tokens_same

-- the characters of a text are those of its longest front that is UTF-8
pub valid_chars-chars : (text : List ℕ) → IsUtf8 text → valid_chars text ≡ chars text
valid_chars-chars text utf8 = ap (λ n. chars (take n text)) (utf8_valid_len-IsUtf8 text utf8) ∙ ap chars (take_all (length text) text (omega arith))

-- the longest front is UTF-8
front_up_to : (bs : List ℕ) (n : ℕ) → IsUtf8 (take (valid_len_up_to bs n) bs)
front_up_to bs zero = IsUtf8-nil
front_up_to bs (suc n) = by_test (is_utf8 (take (suc n) bs)) refl (front_up_to bs n)
  where
    by_test : (b : Bool) → is_utf8 (take (suc n) bs) ≡ b → IsUtf8 (take (valid_len_up_to bs n) bs) → IsUtf8 (take (cond b (suc n) (valid_len_up_to bs n)) bs)
    by_test true is others = IsUtf8-from_is_utf8 (take (suc n) bs) is
    by_test false is others = others

pub utf8_valid_front : (text : List ℕ) → IsUtf8 (take (utf8_valid_len text) text)
unfolding utf8_valid_len
utf8_valid_front text = front_up_to text (length text)

-- the characters of the longest front are characters
valid_chars-scalar : (text : List ℕ) → all_scalars (valid_chars text) ≡ true
valid_chars-scalar text = scalars-chars (take (utf8_valid_len text) text) (utf8_valid_front text)

-- no piece stands where the fault is
fault_stuck : (text rest : List ℕ) (rule : TextRule) → all_scalars rest ≡ true → IsFaultAt text rest rule → prefix_in rest ≡ None
fault_stuck text [] rule scalar fault = prefix_in-nil
fault_stuck text (c ∷ cs) rule scalar fault = prefix_in-none (c ∷ cs) scalar fault.1

one_rule : (text rest : List ℕ) (r s : TextRule) → IsFaultAt text rest r → IsFaultAt text rest s → r ≡ s
one_rule text [] r s fault other = fault.0 ∙ sym other.0
one_rule text (c ∷ cs) r s fault other = fault.0 ∙ sym other.0

rest_scalar : (text : List ℕ) (tokens : List tokens.Token) (at : Position) (rest : List ℕ) → all_scalars text ≡ true → IsRead text tokens at rest → all_scalars rest ≡ true
rest_scalar text tokens at rest scalar read = (all_scalars-parts (flat_map written read.pieces) rest (ap all_scalars read.whole ∙ scalar)).1

pub IsLexicalFault-none : (text : List ℕ) (rule : TextRule) (line column : ℕ) → (fault : IsLexicalFault text rule line column) → prefix_in fault.rest ≡ None
IsLexicalFault-none text rule line column fault =
    fault_stuck text fault.rest rule (rest_scalar (valid_chars text) fault.tokens _ fault.rest (valid_chars-scalar text) fault.read) fault.fault

pub IsLexicalFault-one : (text : List ℕ) (r s : TextRule) (line column line' column' : ℕ) → IsLexicalFault text r line column → IsLexicalFault text s line' column' → (r ≡ s) × (line ≡ line') × (column ≡ column')
IsLexicalFault-one text r s line column line' column' a b =
    let one = one_read (valid_chars text) a.tokens b.tokens _ _ a.rest b.rest a.read b.read (IsLexicalFault-none text r line column a) (IsLexicalFault-none text s line' column' b) in
    (one_rule text b.rest r s (subst (λ rest. IsFaultAt text rest r) one.rest_same a.fault) b.fault, ap (λ (p : Position). p.line) one.at_same, ap (λ (p : Position). p.column) one.at_same)

pub AreTokensOf-no_fault : (text : List ℕ) (tokens : List tokens.Token) (rule : TextRule) (line column : ℕ) → AreTokensOf text tokens → IsLexicalFault text rule line column → ⊥
AreTokensOf-no_fault text tokens rule line column have fault =
    let read = subst (λ cs. IsRead cs tokens have.end []) (sym (valid_chars-chars text have.utf8)) have.read in
    let one = one_read (valid_chars text) fault.tokens tokens _ have.end fault.rest [] fault.read read (IsLexicalFault-none text rule line column fault) prefix_in-nil in
    (subst (λ rest. IsFaultAt text rest rule) one.rest_same fault.fault).1 have.utf8

-- the offset behind some characters
fold-offset : (at : Position) (cs : List ℕ) → (fold past at cs).offset ≡ at.offset + length (encode_utf8_all cs)
fold-offset at [] = omega arith
fold-offset at (c ∷ cs) =
    let step = one_step at c in
    omega (arith, fold-offset (past at c) cs, step.offset, length-append (encode_utf8 c) (encode_utf8_all cs), length-encode c)

-- the bytes of a piece between those before it and those behind it
span-between : (before piece after : List ℕ) (start stop : ℕ) → start ≡ length before → stop ≡ start + length piece → span (before ++ (piece ++ after)) start stop ≡ piece
span-between before piece after start stop is long =
    let size : stop - start ≡ length piece = omega (arith, long) in
    ap (take (stop - start)) (drop-prefix before (piece ++ after) start is) ∙ take-prefix piece after (stop - start) size

record AreSpelled (text : List ℕ) (at : Position) (pieces : List Piece) : Type 0 where
  same : lexemes text (tokens_from at pieces) ≡ lexemes_from at pieces
  each : All IsLexeme (lexemes_from at pieces)

-- what stands before the pieces behind one
next_offset : (before : List ℕ) (at : Position) (piece : Piece) → at.offset ≡ length before → (fold past at (written piece)).offset ≡ length (before ++ encode_utf8_all (written piece))
next_offset before at piece offset = fold-offset at (written piece) ∙ ap (λ n. n + piece_bytes piece) offset ∙ sym (length-append before (encode_utf8_all (written piece)))

next_whole : (before : List ℕ) (piece : Piece) (pieces : List Piece) (text : List ℕ) → before ++ encode_utf8_all (flat_map written (piece ∷ pieces)) ≡ text → (before ++ encode_utf8_all (written piece)) ++ encode_utf8_all (flat_map written pieces) ≡ text
next_whole before piece pieces text whole =
    append_assoc before (encode_utf8_all (written piece)) (encode_utf8_all (flat_map written pieces))
    ∙ ap (λ bs. before ++ bs) (sym (encodes-append (written piece) (flat_map written pieces)))
    ∙ whole

-- Each token is spelled by its bytes: the text is the bytes before the position and those of the pieces.
spelled : (before : List ℕ) (at : Position) (pieces : List Piece) (text : List ℕ) → AreCut pieces [] → at.offset ≡ length before → before ++ encode_utf8_all (flat_map written pieces) ≡ text → AreSpelled text at pieces
spelled before at [] text cut offset whole = record { same = refl; each = All-nil IsLexeme }
spelled before at (Blank c ∷ pieces) text cut offset whole =
    let others = spelled (before ++ encode_utf8_all (c ∷ [])) (past at c) pieces text cut.2 (next_offset before at (Blank c) offset) (next_whole before (Blank c) pieces text whole) in
    record { same = others.same; each = others.each }
spelled before at (Comment line ∷ pieces) text cut offset whole =
    let others = spelled (before ++ encode_utf8_all (written (Comment line))) (fold past at (written (Comment line))) pieces text cut.2 (next_offset before at (Comment line) offset) (next_whole before (Comment line) pieces text whole) in
    record { same = others.same; each = others.each }
spelled before at (Token kind ∷ pieces) text cut offset whole =
    let piece = encode_utf8_all (spelling kind) in
    let after = encode_utf8_all (flat_map written pieces) in
    let behind = fold past at (spelling kind) in
    let others = spelled (before ++ piece) behind pieces text cut.2 (next_offset before at (Token kind) offset) (next_whole before (Token kind) pieces text whole) in
    let text_is : before ++ (piece ++ after) ≡ text = ap (λ bs. before ++ bs) (sym (encodes-append (spelling kind) (flat_map written pieces))) ∙ whole in
    let bytes : span text at.offset behind.offset ≡ piece =
    ap (λ bs. span bs at.offset behind.offset) (sym text_is)
    ∙ span-between before piece after at.offset behind.offset offset (fold-offset at (spelling kind)) in
    let here : kind_by (kind_of kind) (span text at.offset behind.offset) ≡ kind = ap (kind_by (kind_of kind)) bytes ∙ kind_by-spelling kind cut.0 in
    record {
      same = λ i. record { kind = here i; line = at.line; column = at.column } ∷ others.same i;
      each = All-cons IsLexeme (record { kind = kind; line = at.line; column = at.column }) (lexemes_from behind pieces) cut.0 others.each;
    }

spelled_text : (text : List ℕ) (tokens : List tokens.Token) → (are : AreTokensOf text tokens) → AreSpelled text text_start are.read.pieces
spelled_text text tokens are =
    let whole : flat_map written are.read.pieces ≡ chars text = sym (append-nil (flat_map written are.read.pieces)) ∙ are.read.whole in
    spelled [] text_start are.read.pieces text are.read.cut refl (ap encode_utf8_all whole ∙ encodes-chars text are.utf8)

-- the lexemes of a text are the tokens among its pieces
pub lexemes-pieces : (text : List ℕ) (tokens : List tokens.Token) → (are : AreTokensOf text tokens) → lexemes text tokens ≡ lexemes_from text_start are.read.pieces
lexemes-pieces text tokens are = ap (lexemes text) (sym are.read.are) ∙ (spelled_text text tokens are).same

pub lexemes-IsLexeme : (text : List ℕ) (tokens : List tokens.Token) → AreTokensOf text tokens → All IsLexeme (lexemes text tokens)
lexemes-IsLexeme text tokens are = subst (All IsLexeme) (sym (lexemes-pieces text tokens are)) (spelled_text text tokens are).each
