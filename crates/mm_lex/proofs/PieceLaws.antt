-- With what a text begins: reading finds pieces alone, and each piece that stands there.
use Rattle.std.proofs.Common.{◌≡◌, ℕ, suc, ◌+◌, ◌-◌, ◌^◌, ◌<◌, Bool, true, false, cond, eqb, List, [], ◌∷◌, ◌++◌, length, take, drop, Option, Some, None, refl, sym, ap, ◌∙◌, subst, arith, take-append-drop, lit<}
use Rattle.std.specs.List.{AllPass, prefix_len, list_all}
use Rattle.std.specs.Option.{option_map}
use Rattle.std.specs.Char.{is_ascii_digit}
use Rattle.std.specs.Str.{all_scalars, encode_utf8_all}
use Rattle.std.specs.Fmt.{decimal}
use Rattle.std.proofs.lemmas.Bool.{and_parts, false≢true, eqb-true}
use Rattle.std.proofs.lemmas.Bool.Decides.{nat_tests}
use Rattle.std.proofs.lemmas.Option.{some_pair_parts, none-some}
use Rattle.std.proofs.lemmas.Fmt.{decimal_nonempty}
use Rattle.std.proofs.lemmas.Str.{encode_ascii}
use Rattle.std.proofs.lemmas.List.Elements.{All-cons, All-tail}
use Rattle.std.proofs.lemmas.List.Sums.{AllPass-from_list_all}
use Rattle.unicode_ident.specs.Ident.{is_xid_continue}
use Rattle.mm_names.specs.declared.run.Run.{Run}
use Rattle.mm_names.specs.Decimals.{number_in}
use Rattle.mm_names.specs.Names.{starts_name, IsNameLike}
use Rattle.mm_names.specs.Prefixes.{StopsAt}
use Rattle.mm_names.specs.Runs.{run_in}
use Rattle.mm_names.proofs.NameLemmas.{starts_name-ascii}
use Rattle.mm_names.proofs.Numerals.{number_in-writes, number_in-decimal, decimal-digits}
use Rattle.mm_names.proofs.Prefixes.{run_at_prefix, stops_never, all_scalars-parts}
use Rattle.mm_names.proofs.RunLemmas.{mapped}
use Rattle.mm_lex.specs.declared.punct.Punct as punct_types
use Rattle.mm_lex.specs.declared.punct.Punct.TheVariants as puncts
use Rattle.mm_lex.specs.declared.token.TokenKind.{TokenKind}
use Rattle.mm_lex.specs.declared.token.TokenKind.TheVariants as kinds
use Rattle.mm_lex.specs.Puncts.{punct_spelling}
use Rattle.mm_lex.specs.Lexemes.{LexemeKind, Name, Word, Local, Label, Number, Punct, Other}
use Rattle.mm_lex.specs.Pieces.{spelling, IsToken, lengthens, lengthens_punct, Piece, Blank, Comment, Token, written, is_blank, is_within_line, IsPiece, goes_on}
use Rattle.mm_lex.specs.Tokens.{kind_of}
use Rattle.mm_lex.specs.FirstPieces.{front, run_kind, first_punct, with_length, run_at, number_at, punct_prefix, begins_comment, prefix_in}
use Rattle.mm_lex.proofs.Fronts.{front-append, spelled_same}
use Rattle.mm_lex.proofs.KindLemmas.{start_continues, decimal-encode, run_found, IsRunToken, name_run, word_run, local_run, label_run}
use Rattle.mm_lex.proofs.PunctLemmas.{first_punct-found, first_punct-punct_spelling, punct_spelling-mark}

-- the kind of the token that a piece is
abbrev pub piece_kind : Piece → Option TokenKind
piece_kind (Blank c) = None
piece_kind (Comment line) = None
piece_kind (Token kind) = Some (kind_of kind)

-- the bytes that a piece takes
abbrev pub piece_bytes : Piece → ℕ
piece_bytes piece = length (encode_utf8_all (written piece))

-- a text begins with a piece: so many bytes, which are a token of this kind or none
pub record Found (text : List ℕ) (kind : Option TokenKind) (n : ℕ) : Type 0 where
  pub piece : Piece
  pub is : IsPiece piece
  pub kind_is : piece_kind piece ≡ kind
  pub bytes : piece_bytes piece ≡ n
  pub rest : List ℕ
  pub whole : written piece ++ rest ≡ text
  pub some : 0 < length (written piece)
  pub stops : StopsAt (goes_on piece) rest

-- what is found by its parts
same_found : (text : List ℕ) (kind kind' : Option TokenKind) (n n' : ℕ) → (kind ≡ kind') × (n ≡ n') → Found text kind n → Found text kind' n'
same_found text kind kind' n n' same found = subst (λ k. Found text kind' k) same.1 (subst (λ k. Found text k n) same.0 found)

-- a piece that is some characters of the text
at_prefix : (text : List ℕ) (piece : Piece) (k : ℕ) → IsPiece piece → take k text ≡ written piece → 0 < length (written piece) → StopsAt (goes_on piece) (drop k text) → Found text (piece_kind piece) (length (encode_utf8_all (take k text)))
at_prefix text piece k is prefix some stops = record {
  piece = piece;
  is = is;
  kind_is = refl;
  bytes = ap (λ cs. length (encode_utf8_all cs)) (sym prefix);
  rest = drop k text;
  whole = ap (λ cs. cs ++ drop k text) (sym prefix) ∙ take-append-drop k text;
  some = some;
  stops = stops;
}

-- a character that no name starts with
no_start : (c : ℕ) → c < 65 → starts_name c ≡ false
no_start c low =
    let small : c < 128 = omega arith in
    rw (starts_name-ascii c small) (grind (arith, nat_tests))

pub prefix_in-nil : prefix_in [] ≡ None
unfolding prefix_in first_punct
prefix_in-nil = rw (no_start 0 (omega arith)) refl

-- a blank
blank_bytes : (c : ℕ) → is_blank c ≡ true → piece_bytes (Blank c) ≡ 1
blank_bytes c is = let small : c < 128 = grind (arith, nat_tests) in rw (encode_ascii c small) refl

blank_found : (c : ℕ) (cs : List ℕ) → is_blank c ≡ true → Found (c ∷ cs) None 1
blank_found c cs is = record {
  piece = Blank c;
  is = is;
  kind_is = refl;
  bytes = blank_bytes c is;
  rest = cs;
  whole = refl;
  some = omega arith;
  stops = stops_never cs;
}

-- a comment, from `//` to the end of its line
comment_found : (ds : List ℕ) → Found (47 ∷ 47 ∷ ds) None (length (front is_within_line (47 ∷ 47 ∷ ds)))
comment_found ds =
    let k = prefix_len is_within_line ds in
    let run = run_at_prefix is_within_line ds in
    let long : 1 + (1 + k) ≡ suc (suc k) = omega arith in
    let found = at_prefix (47 ∷ 47 ∷ ds) (Comment (take k ds)) (suc (suc k)) run.pass refl (omega arith) run.stops in
    subst (λ n. Found (47 ∷ 47 ∷ ds) None (length (encode_utf8_all (take n (47 ∷ 47 ∷ ds))))) (sym long) found

-- a token whose characters are the longest prefix that passes a test
token_found : (test : ℕ → Bool) (c : ℕ) (cs : List ℕ) (kind : LexemeKind) → test c ≡ true → spelling kind ≡ take (prefix_len test (c ∷ cs)) (c ∷ cs) → IsToken kind → lengthens kind ≡ test → Found (c ∷ cs) (Some (kind_of kind)) (length (front test (c ∷ cs)))
token_found test c cs kind passes spells is ends =
    let k = prefix_len test (c ∷ cs) in
    let one : prefix_len test (c ∷ cs) ≡ suc (prefix_len test cs) = rw passes (omega arith) in
    let some : 0 < length (take k (c ∷ cs)) = rw one (omega arith) in
    at_prefix (c ∷ cs) (Token kind) k is (sym spells) (subst (λ s. 0 < length s) (sym spells) some) (subst (λ (p : ℕ → Bool). StopsAt p (drop k (c ∷ cs))) (sym ends) (run_at_prefix test (c ∷ cs)).stops)

-- what `with_length` answers
counted : (n : ℕ) (found : Option TokenKind) (kind : Option TokenKind) (k : ℕ) → with_length n found ≡ Some (kind, k) → (token : TokenKind) × (found ≡ Some token) × ((Some token ≡ kind) × (n ≡ k))
counted n None kind k h = absurd (none-some (kind, k) h)
counted n (Some token) kind k h = (token, refl, some_pair_parts (Some token) kind n k h)

-- the characters of a run that begins as a name
run_like : (c : ℕ) (cs : List ℕ) → starts_name c ≡ true → IsNameLike (take (prefix_len is_xid_continue (c ∷ cs)) (c ∷ cs))
run_like c cs starts =
    let goes = start_continues c starts in
    let k = prefix_len is_xid_continue cs in
    let long : prefix_len is_xid_continue (c ∷ cs) ≡ suc k = rw goes (omega arith) in
    let pass = subst (λ (n : ℕ). AllPass is_xid_continue (take n (c ∷ cs))) long (run_at_prefix is_xid_continue (c ∷ cs)).pass in
    subst (λ (n : ℕ). IsNameLike (take n (c ∷ cs))) (sym long) (starts, All-tail (λ d. is_xid_continue d ≡ true) c (take k cs) pass)

name_found : (c : ℕ) (cs : List ℕ) (kind : Option TokenKind) (n : ℕ) → all_scalars (c ∷ cs) ≡ true → starts_name c ≡ true → run_at (c ∷ cs) ≡ Some (kind, n) → Found (c ∷ cs) kind n
name_found c cs kind n scalar starts read =
    let text = c ∷ cs in
    let k = prefix_len is_xid_continue text in
    let bytes = front is_xid_continue text in
    let token = counted (length bytes) (option_map run_kind (run_in bytes)) kind n read in
    let run = mapped run_kind (run_in bytes) token.0 token.1 in
    let parts = all_scalars-parts (take k text) (drop k text) (ap all_scalars (take-append-drop k text) ∙ scalar) in
    let found = run_found (take k text) run.0 parts.0 (run_like c cs starts) run.1 in
    let here = token_found is_xid_continue c cs found.kind (start_continues c starts) found.spells found.is found.ends in
    same_found text (Some (kind_of found.kind)) kind (length bytes) n (ap Some (found.kind_is ∙ run.2) ∙ token.2.0, token.2.1) here

number_found : (c : ℕ) (cs : List ℕ) (kind : Option TokenKind) (n : ℕ) → is_ascii_digit c ≡ true → number_at (c ∷ cs) ≡ Some (kind, n) → Found (c ∷ cs) kind n
number_found c cs kind n digit read =
    let text = c ∷ cs in
    let k = prefix_len is_ascii_digit text in
    let bytes = front is_ascii_digit text in
    let limit = 2 ^ 64 - 1 in
    let token = counted (length bytes) (option_map kinds.Number (number_in limit bytes)) kind n read in
    let number = mapped kinds.Number (number_in limit bytes) token.0 token.1 in
    let writes = number_in-writes limit number.0 bytes (omega arith) number.1 in
    let small : number.0 < 2 ^ 64 = omega (arith, writes.1) in
    let spells = spelled_same (take k text) (decimal number.0) bytes (decimal-encode number.0 small) writes.0 refl in
    let here = token_found is_ascii_digit c cs (Number number.0) digit spells small refl in
    same_found text (Some (kinds.Number number.0)) kind (length bytes) n (ap Some number.2 ∙ token.2.0, token.2.1) here

punct_found : (text : List ℕ) (kind : Option TokenKind) (n : ℕ) → 0 < length text → punct_prefix (first_punct text) ≡ Some (kind, n) → Found text kind n
punct_found text kind n some read = by_punct (first_punct text) refl read
  where
    by_punct : (r : Option punct_types.Punct) → first_punct text ≡ r → punct_prefix r ≡ Some (kind, n) → Found text kind n
    by_punct None is h = absurd (none-some (kind, n) h)
    by_punct (Some punct) is h =
        let stands = first_punct-found text punct some is in
        let mark = punct_spelling-mark punct in
        let len = length (punct_spelling punct) in
        let found = at_prefix text (Token (Punct punct)) len tt stands.0 mark.some stands.2 in
        let bytes : length (encode_utf8_all (take len text)) ≡ len = ap (λ cs. length (encode_utf8_all cs)) stands.0 ∙ ap length mark.bytes in
        let same = some_pair_parts (Some kinds.Punct) kind len n h in
        same_found text (Some kinds.Punct) kind (length (encode_utf8_all (take len text))) n (same.0, bytes ∙ same.1) found

-- two slashes are a comment
slashes_found : (c : ℕ) (cs : List ℕ) (kind : Option TokenKind) (n : ℕ) → begins_comment (c ∷ cs) ≡ true → (None ≡ kind) × (length (front is_within_line (c ∷ cs)) ≡ n) → Found (c ∷ cs) kind n
slashes_found c [] kind n slashes same = absurd (false≢true (and_parts (eqb c 47) false slashes).1)
slashes_found c (d ∷ ds) kind n slashes same =
    let parts = and_parts (eqb c 47) (eqb d 47) slashes in
    let text : 47 ∷ 47 ∷ ds ≡ c ∷ d ∷ ds = λ i. sym (eqb-true c 47 parts.0) i ∷ sym (eqb-true d 47 parts.1) i ∷ ds in
    same_found (c ∷ d ∷ ds) None kind (length (front is_within_line (c ∷ d ∷ ds))) n same (subst (λ cs. Found cs None (length (front is_within_line cs))) text (comment_found ds))

-- what is found is a piece
pub prefix_in-found : (text : List ℕ) (kind : Option TokenKind) (n : ℕ) → all_scalars text ≡ true → prefix_in text ≡ Some (kind, n) → Found text kind n
unfolding prefix_in
prefix_in-found [] kind n scalar read = absurd (none-some (kind, n) (sym prefix_in-nil ∙ read))
prefix_in-found (c ∷ cs) kind n scalar read = by_blank (is_blank c) refl read
  where
    by_digit : (b : Bool) → is_ascii_digit c ≡ b → cond b (number_at (c ∷ cs)) (punct_prefix (first_punct (c ∷ cs))) ≡ Some (kind, n) → Found (c ∷ cs) kind n
    by_digit true is h = number_found c cs kind n is h
    by_digit false is h = punct_found (c ∷ cs) kind n (omega arith) h

    by_start : (b : Bool) → starts_name c ≡ b → cond b (run_at (c ∷ cs)) (cond (is_ascii_digit c) (number_at (c ∷ cs)) (punct_prefix (first_punct (c ∷ cs)))) ≡ Some (kind, n) → Found (c ∷ cs) kind n
    by_start true is h = name_found c cs kind n scalar is h
    by_start false is h = by_digit (is_ascii_digit c) refl h

    by_slashes : (b : Bool) → begins_comment (c ∷ cs) ≡ b → cond b (Some (None, length (front is_within_line (c ∷ cs)))) (cond (starts_name c) (run_at (c ∷ cs)) (cond (is_ascii_digit c) (number_at (c ∷ cs)) (punct_prefix (first_punct (c ∷ cs))))) ≡ Some (kind, n) → Found (c ∷ cs) kind n
    by_slashes true is h = slashes_found c cs kind n is (some_pair_parts None kind (length (front is_within_line (c ∷ cs))) n h)
    by_slashes false is h = by_start (starts_name c) refl h

    by_blank : (b : Bool) → is_blank c ≡ b → cond b (Some (None, 1)) (cond (begins_comment (c ∷ cs)) (Some (None, length (front is_within_line (c ∷ cs)))) (cond (starts_name c) (run_at (c ∷ cs)) (cond (is_ascii_digit c) (number_at (c ∷ cs)) (punct_prefix (first_punct (c ∷ cs)))))) ≡ Some (kind, n) → Found (c ∷ cs) kind n
    by_blank true is h =
        same_found (c ∷ cs) None kind 1 n (some_pair_parts None kind 1 n h) (blank_found c cs is)
    by_blank false is h = by_slashes (begins_comment (c ∷ cs)) refl h

-- what is no blank and no slash is a run, a number or punctuation
plain_prefix : (c : ℕ) (cs : List ℕ) → is_blank c ≡ false → eqb c 47 ≡ false → prefix_in (c ∷ cs) ≡ cond (starts_name c) (run_at (c ∷ cs)) (cond (is_ascii_digit c) (number_at (c ∷ cs)) (punct_prefix (first_punct (c ∷ cs))))
unfolding prefix_in
plain_prefix c cs no_blank no_slash = rw (no_blank, no_slash) refl

-- the longest prefix, before what stops there, is a token of so many bytes
counts : (test : ℕ → Bool) (read : List ℕ → Option TokenKind) (cs rest : List ℕ) (kind : TokenKind) → AllPass test cs → StopsAt test rest → read (encode_utf8_all cs) ≡ Some kind → with_length (length (front test (cs ++ rest))) (read (front test (cs ++ rest))) ≡ Some (Some kind, length (encode_utf8_all cs))
counts test read cs rest kind pass stops is =
    ap (λ bytes. with_length (length bytes) (read bytes)) (front-append test cs rest pass stops)
    ∙ ap (with_length (length (encode_utf8_all cs))) is

start_apart : (c : ℕ) → starts_name c ≡ true → (is_blank c ≡ false) × (eqb c 47 ≡ false)
start_apart c starts = (by_test (is_blank c) refl (λ is. grind (arith, nat_tests)), by_test (eqb c 47) refl (λ is. grind (arith, nat_tests)))
  where
    by_test : (b : Bool) {t : Bool} → t ≡ b → (t ≡ true → c < 65) → t ≡ false
    by_test true is low = absurd (false≢true (sym (no_start c (low is)) ∙ starts))
    by_test false is low = is

-- a run that is read, before what does not go on
run_written : (cs rest : List ℕ) (run : Run) → IsNameLike cs → run_in (encode_utf8_all cs) ≡ Some run → StopsAt is_xid_continue rest → prefix_in (cs ++ rest) ≡ Some (Some (run_kind run), length (encode_utf8_all cs))
run_written [] rest run like read stops = absurd like
run_written (c ∷ cs) rest run like read stops =
    let apart = start_apart c like.0 in
    let pass = All-cons (λ d. is_xid_continue d ≡ true) c cs (start_continues c like.0) like.1 in
    plain_prefix c (cs ++ rest) apart.0 apart.1 ∙ rw like.0 (counts is_xid_continue (λ bytes. option_map run_kind (run_in bytes)) (c ∷ cs) rest (run_kind run) pass stops (ap (option_map run_kind) read))

second_of_three : (a b : Bool) (x y z : Option (Option TokenKind × ℕ)) → a ≡ false → b ≡ true → cond a x (cond b y z) ≡ y
second_of_three a b x y z not_first is_second = rw (not_first, is_second) refl

digit_apart : (c : ℕ) → is_ascii_digit c ≡ true → (is_blank c ≡ false) × (eqb c 47 ≡ false) × (starts_name c ≡ false)
digit_apart c digit = (grind (arith, nat_tests), grind (arith, nat_tests), no_start c (grind (arith, nat_tests)))

number_written : (ds rest : List ℕ) (n : ℕ) → list_all is_ascii_digit ds ≡ true → 0 < length ds → number_in (2 ^ 64 - 1) (encode_utf8_all ds) ≡ Some n → StopsAt is_ascii_digit rest → prefix_in (ds ++ rest) ≡ Some (Some (kinds.Number n), length (encode_utf8_all ds))
number_written [] rest n digits some read stops = absurd (omega arith)
number_written (d ∷ ds) rest n digits some read stops =
    let digit = (and_parts (is_ascii_digit d) (list_all is_ascii_digit ds) digits).0 in
    let apart = digit_apart d digit in
    let number : List ℕ → Option TokenKind = λ cs. option_map kinds.Number (number_in (2 ^ 64 - 1) cs) in
    plain_prefix d (ds ++ rest) apart.0 apart.1
    ∙ second_of_three (starts_name d) (is_ascii_digit d) (run_at (d ∷ (ds ++ rest))) (number_at (d ∷ (ds ++ rest))) (punct_prefix (first_punct (d ∷ (ds ++ rest)))) apart.2 digit
    ∙ counts is_ascii_digit number (d ∷ ds) rest (kinds.Number n) (AllPass-from_list_all is_ascii_digit (d ∷ ds) digits) stops (ap (option_map kinds.Number) read)

prefix_in-punct : (c : ℕ) (cs : List ℕ) (punct : punct_types.Punct) → is_blank c ≡ false → eqb c 47 ≡ false → starts_name c ≡ false → is_ascii_digit c ≡ false → first_punct (c ∷ cs) ≡ Some punct → prefix_in (c ∷ cs) ≡ Some (Some kinds.Punct, length (punct_spelling punct))
prefix_in-punct c cs punct no_blank no_slash no_name no_digit read = plain_prefix c cs no_blank no_slash ∙ rw (no_name, no_digit, read) refl

-- punctuation, before what does not make it longer
mark_written : (punct : punct_types.Punct) (rest : List ℕ) → StopsAt (lengthens_punct punct) rest → prefix_in (punct_spelling punct ++ rest) ≡ Some (Some kinds.Punct, length (punct_spelling punct))
mark_written puncts.PathSep rest stops = prefix_in-punct 58 (58 ∷ rest) puncts.PathSep refl refl (starts_name-ascii 58 (lit< tt)) refl (first_punct-punct_spelling puncts.PathSep rest stops)
mark_written puncts.Arrow rest stops = prefix_in-punct 45 (62 ∷ rest) puncts.Arrow refl refl (starts_name-ascii 45 (lit< tt)) refl (first_punct-punct_spelling puncts.Arrow rest stops)
mark_written puncts.FatArrow rest stops = prefix_in-punct 61 (62 ∷ rest) puncts.FatArrow refl refl (starts_name-ascii 61 (lit< tt)) refl (first_punct-punct_spelling puncts.FatArrow rest stops)
mark_written puncts.Open rest stops = prefix_in-punct 40 rest puncts.Open refl refl (starts_name-ascii 40 (lit< tt)) refl (first_punct-punct_spelling puncts.Open rest stops)
mark_written puncts.Close rest stops = prefix_in-punct 41 rest puncts.Close refl refl (starts_name-ascii 41 (lit< tt)) refl (first_punct-punct_spelling puncts.Close rest stops)
mark_written puncts.OpenBrace rest stops = prefix_in-punct 123 rest puncts.OpenBrace refl refl (starts_name-ascii 123 (lit< tt)) refl (first_punct-punct_spelling puncts.OpenBrace rest stops)
mark_written puncts.CloseBrace rest stops = prefix_in-punct 125 rest puncts.CloseBrace refl refl (starts_name-ascii 125 (lit< tt)) refl (first_punct-punct_spelling puncts.CloseBrace rest stops)
mark_written puncts.Less rest stops = prefix_in-punct 60 rest puncts.Less refl refl (starts_name-ascii 60 (lit< tt)) refl (first_punct-punct_spelling puncts.Less rest stops)
mark_written puncts.Greater rest stops = prefix_in-punct 62 rest puncts.Greater refl refl (starts_name-ascii 62 (lit< tt)) refl (first_punct-punct_spelling puncts.Greater rest stops)
mark_written puncts.OpenBracket rest stops = prefix_in-punct 91 rest puncts.OpenBracket refl refl (starts_name-ascii 91 (lit< tt)) refl (first_punct-punct_spelling puncts.OpenBracket rest stops)
mark_written puncts.CloseBracket rest stops = prefix_in-punct 93 rest puncts.CloseBracket refl refl (starts_name-ascii 93 (lit< tt)) refl (first_punct-punct_spelling puncts.CloseBracket rest stops)
mark_written puncts.Comma rest stops = prefix_in-punct 44 rest puncts.Comma refl refl (starts_name-ascii 44 (lit< tt)) refl (first_punct-punct_spelling puncts.Comma rest stops)
mark_written puncts.Semicolon rest stops = prefix_in-punct 59 rest puncts.Semicolon refl refl (starts_name-ascii 59 (lit< tt)) refl (first_punct-punct_spelling puncts.Semicolon rest stops)
mark_written puncts.Colon rest stops = prefix_in-punct 58 rest puncts.Colon refl refl (starts_name-ascii 58 (lit< tt)) refl (first_punct-punct_spelling puncts.Colon rest stops)
mark_written puncts.Dot rest stops = prefix_in-punct 46 rest puncts.Dot refl refl (starts_name-ascii 46 (lit< tt)) refl (first_punct-punct_spelling puncts.Dot rest stops)
mark_written puncts.Star rest stops = prefix_in-punct 42 rest puncts.Star refl refl (starts_name-ascii 42 (lit< tt)) refl (first_punct-punct_spelling puncts.Star rest stops)
mark_written puncts.At rest stops = prefix_in-punct 64 rest puncts.At refl refl (starts_name-ascii 64 (lit< tt)) refl (first_punct-punct_spelling puncts.At rest stops)
mark_written puncts.Ampersand rest stops = prefix_in-punct 38 rest puncts.Ampersand refl refl (starts_name-ascii 38 (lit< tt)) refl (first_punct-punct_spelling puncts.Ampersand rest stops)
mark_written puncts.Equals rest stops = prefix_in-punct 61 rest puncts.Equals refl refl (starts_name-ascii 61 (lit< tt)) refl (first_punct-punct_spelling puncts.Equals rest stops)

punct_written : (punct : punct_types.Punct) (rest : List ℕ) → StopsAt (lengthens_punct punct) rest → prefix_in (punct_spelling punct ++ rest) ≡ Some (Some kinds.Punct, length (encode_utf8_all (punct_spelling punct)))
punct_written punct rest stops = mark_written punct rest stops ∙ ap (λ bytes. Some (Some kinds.Punct, length bytes)) (sym (punct_spelling-mark punct).bytes)

comment_written : (line rest : List ℕ) → AllPass is_within_line line → StopsAt is_within_line rest → prefix_in (47 ∷ 47 ∷ (line ++ rest)) ≡ Some (None, piece_bytes (Comment line))
unfolding prefix_in
comment_written line rest pass stops =
    let within = λ (c : ℕ). is_within_line c ≡ true in
    ap (λ bytes. Some (None, length bytes)) (front-append is_within_line (47 ∷ 47 ∷ line) rest (All-cons within 47 (47 ∷ line) refl (All-cons within 47 line refl pass)) stops)

-- a token that is read from a run
run_token_written : (kind : LexemeKind) (rest : List ℕ) → IsRunToken kind → StopsAt (lengthens kind) rest → prefix_in (spelling kind ++ rest) ≡ Some (Some (kind_of kind), piece_bytes (Token kind))
run_token_written kind rest run stops =
    run_written (spelling kind) rest run.run run.like run.read (subst (λ (p : ℕ → Bool). StopsAt p rest) run.ends stops)
    ∙ ap (λ k. Some (Some k, piece_bytes (Token kind))) run.kind_is

-- a piece is found
pub prefix_in-written : (piece : Piece) (rest : List ℕ) → IsPiece piece → StopsAt (goes_on piece) rest → prefix_in (written piece ++ rest) ≡ Some (piece_kind piece, piece_bytes piece)
unfolding prefix_in
prefix_in-written (Blank c) rest is stops = rw is (ap (λ n. Some (None, n)) (sym (blank_bytes c is)))
prefix_in-written (Comment line) rest is stops = comment_written line rest is stops
prefix_in-written (Token (Name bytes)) rest is stops = run_token_written (Name bytes) rest (name_run bytes is) stops
prefix_in-written (Token (Word word)) rest is stops = run_token_written (Word word) rest (word_run word) stops
prefix_in-written (Token (Local n)) rest is stops = run_token_written (Local n) rest (local_run n is) stops
prefix_in-written (Token (Label n)) rest is stops = run_token_written (Label n) rest (label_run n is) stops
prefix_in-written (Token (Number n)) rest is stops =
    number_written (decimal n) rest n (decimal-digits n is) (decimal_nonempty n is) (ap (number_in (2 ^ 64 - 1)) (decimal-encode n is) ∙ number_in-decimal (2 ^ 64 - 1) n (omega arith) (omega arith)) stops
prefix_in-written (Token (Punct punct)) rest is stops = punct_written punct rest stops
prefix_in-written (Token Other) rest is stops = absurd is
