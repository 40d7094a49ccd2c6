-- The canonical text is cut into its tokens again.
use Rattle.std.proofs.Common.{◌≡◌, ℕ, ◌<◌, Bool, true, false, cond, ◌||◌, eqb, List, [], ◌∷◌, ◌++◌, refl, sym, ap, subst, arith, append-nil}
use Rattle.std.specs.Prelude.{flat_map, fold}
use Rattle.std.specs.Char.{is_ascii_digit}
use Rattle.unicode_ident.specs.Ident.{is_xid_continue}
use Rattle.unicode_ident.proofs.IdentLemmas.{is_xid_continue-ascii}
use Rattle.mm_names.specs.Prefixes.{StopsAt}
use Rattle.mm_lex.specs.declared.punct.Punct as puncts
use Rattle.mm_lex.specs.declared.punct.Punct.TheVariants.{Open, Close, OpenBracket, CloseBracket, Less, Greater, Comma, Semicolon, Colon, PathSep, Dot, At, Equals}
use Rattle.mm_lex.specs.declared.position.Position.{Position}
use Rattle.mm_lex.specs.Puncts.{punct_spelling}
use Rattle.mm_lex.specs.Lexemes.{LexemeKind, Name, Word, Local, Label, Number, Punct, Other}
use Rattle.mm_lex.specs.Pieces.{Piece, Blank, Token, spelling, IsToken, lengthens, lengthens_punct, written, IsPiece, AreCut}
use Rattle.mm_lex.specs.Positions.{past}
use Rattle.mm_lex.specs.Tokens.{lexemes_from}
use Rattle.mm_print.specs.declared.gap.Gap as gaps
use Rattle.mm_print.specs.declared.gap.Gap.TheVariants.{LineFeed, Nothing, OneBlank}
use Rattle.mm_shape.specs.Shapes.{AllTokens, kinds_of}
use Rattle.mm_print.specs.Canonical.{ends_line, holds_next, holds_last, passes, punct_of, gap_of, pieces_in, behind, parted, puncts_join, join, NoneJoin}

-- a character that no name and no number goes on with
pub record IsQuiet (c : ℕ) : Type 0 where
  pub name : is_xid_continue c ≡ false
  pub digit : is_ascii_digit c ≡ false

quiet : (c : ℕ) → c < 128 → is_xid_continue c ≡ false → is_ascii_digit c ≡ false → IsQuiet c
quiet c small a b = record { name = a; digit = b }

-- behind such a character a token that is no mark stops
stops_quiet : (k : LexemeKind) (c : ℕ) → IsQuiet c → ((m : puncts.Punct) → k ≡ Punct m → lengthens_punct m c ≡ false) → lengthens k c ≡ false
stops_quiet (Name b) c q m = q.name
stops_quiet (Word b) c q m = q.name
stops_quiet (Local b) c q m = q.name
stops_quiet (Label b) c q m = q.name
stops_quiet (Number b) c q m = q.digit
stops_quiet Other c q m = q.name
stops_quiet (Punct b) c q m = m b refl

quiet_10 : IsQuiet 10
quiet_10 = record { name = is_xid_continue-ascii 10 (omega arith); digit = refl }

quiet_32 : IsQuiet 32
quiet_32 = record { name = is_xid_continue-ascii 32 (omega arith); digit = refl }

-- what no mark goes on with
puncts_stop : (c : ℕ) → eqb c 58 ≡ false → eqb c 62 ≡ false → (m : puncts.Punct) → lengthens_punct m c ≡ false
puncts_stop c a b Colon = a
puncts_stop c a b Equals = b
puncts_stop c a b _ = refl

stops_plain : (k : LexemeKind) (c : ℕ) → IsQuiet c → eqb c 58 ≡ false → eqb c 62 ≡ false → lengthens k c ≡ false
stops_plain k c q a b = stops_quiet k c q (λ m e. puncts_stop c a b m)

stops_colon : (k : LexemeKind) → ((m : puncts.Punct) → k ≡ Punct m → puncts_join m Colon ≡ false) → lengthens k 58 ≡ false
stops_colon k h = stops_quiet k 58 (record { name = is_xid_continue-ascii 58 (omega arith); digit = refl }) (λ m e. by m (h m e))
  where
    by : (m : puncts.Punct) → puncts_join m Colon ≡ false → lengthens_punct m 58 ≡ false
    by Colon g = cc
    by Equals g = refl
    by _ g = refl

stops_greater : (k : LexemeKind) → ((m : puncts.Punct) → k ≡ Punct m → puncts_join m Greater ≡ false) → lengthens k 62 ≡ false
stops_greater k h = stops_quiet k 62 (record { name = is_xid_continue-ascii 62 (omega arith); digit = refl }) (λ m e. by m (h m e))
  where
    by : (m : puncts.Punct) → puncts_join m Greater ≡ false → lengthens_punct m 62 ≡ false
    by Colon g = refl
    by Equals g = cc
    by _ g = refl

same_join : (m : puncts.Punct) → puncts_join m PathSep ≡ false → puncts_join m Colon ≡ false
same_join Colon h = cc
same_join Equals h = refl
same_join _ h = refl

no_join : (n : puncts.Punct) (k : LexemeKind) → join k (Punct n) ≡ false → (m : puncts.Punct) → k ≡ Punct m → puncts_join m n ≡ false
no_join n k h m e = subst (λ j. join j (Punct n) ≡ false) e h

-- a token stops before a mark that holds to it
stops_last : (n : puncts.Punct) → holds_last n ≡ true → (k : LexemeKind) → join k (Punct n) ≡ false → (rest : List ℕ) → StopsAt (lengthens k) (punct_spelling n ++ rest)
stops_last Open t k h rest = stops_plain k 40 (record { name = is_xid_continue-ascii 40 (omega arith); digit = refl }) refl refl
stops_last Close t k h rest = stops_plain k 41 (record { name = is_xid_continue-ascii 41 (omega arith); digit = refl }) refl refl
stops_last Less t k h rest = stops_plain k 60 (record { name = is_xid_continue-ascii 60 (omega arith); digit = refl }) refl refl
stops_last Greater t k h rest = stops_greater k (no_join Greater k h)
stops_last OpenBracket t k h rest = stops_plain k 91 (record { name = is_xid_continue-ascii 91 (omega arith); digit = refl }) refl refl
stops_last CloseBracket t k h rest = stops_plain k 93 (record { name = is_xid_continue-ascii 93 (omega arith); digit = refl }) refl refl
stops_last Comma t k h rest = stops_plain k 44 (record { name = is_xid_continue-ascii 44 (omega arith); digit = refl }) refl refl
stops_last Semicolon t k h rest = stops_plain k 59 (record { name = is_xid_continue-ascii 59 (omega arith); digit = refl }) refl refl
stops_last Colon t k h rest = stops_colon k (no_join Colon k h)
stops_last PathSep t k h rest = stops_colon k (λ m e. same_join m (no_join PathSep k h m e))
stops_last Dot t k h rest = stops_plain k 46 (record { name = is_xid_continue-ascii 46 (omega arith); digit = refl }) refl refl
stops_last At t k h rest = stops_plain k 64 (record { name = is_xid_continue-ascii 64 (omega arith); digit = refl }) refl refl
stops_last _ t k h rest = cc

-- a mark that holds to the next token stops before any
stops_never : (rest : List ℕ) → StopsAt (λ c. false) rest
stops_never [] = tt
stops_never (c ∷ cs) = refl

stops_next : (m : puncts.Punct) → holds_next m ≡ true → (rest : List ℕ) → StopsAt (lengthens_punct m) rest
stops_next Colon t rest = cc
stops_next Equals t rest = cc
stops_next _ t rest = stops_never rest

next_holds : (k : LexemeKind) → passes holds_next (punct_of k) ≡ true → (rest : List ℕ) → StopsAt (lengthens k) rest
next_holds (Punct m) t rest = stops_next m t rest
next_holds (Name b) t rest = cc
next_holds (Word b) t rest = cc
next_holds (Local b) t rest = cc
next_holds (Label b) t rest = cc
next_holds (Number b) t rest = cc
next_holds Other t rest = cc

last_holds : (k next : LexemeKind) → passes holds_last (punct_of next) ≡ true → join k next ≡ false → (rest : List ℕ) → StopsAt (lengthens k) (spelling next ++ rest)
last_holds k (Punct n) t h rest = stops_last n t k h rest
last_holds k (Name b) t h rest = cc
last_holds k (Word b) t h rest = cc
last_holds k (Local b) t h rest = cc
last_holds k (Label b) t h rest = cc
last_holds k (Number b) t h rest = cc
last_holds k Other t h rest = cc

-- a token, what stands behind it, and pieces that are cut
token_cut : (k : LexemeKind) (pieces : List Piece) → IsToken k → StopsAt (lengthens k) (flat_map written pieces) → AreCut pieces [] → AreCut (Token k ∷ pieces) []
token_cut k pieces is stops cut = (is, subst (StopsAt (lengthens k)) (sym (append-nil (flat_map written pieces))) stops, cut)

blank_cut : (k : LexemeKind) (c : ℕ) (pieces : List Piece) → IsToken k → IsPiece (Blank c) → lengthens k c ≡ false → AreCut pieces [] → AreCut (Token k ∷ Blank c ∷ pieces) []
blank_cut k c pieces is blank stops cut = (is, stops, (blank, stops_never (flat_map written pieces ++ []), cut))

pub cut : (ks : List LexemeKind) → AllTokens ks → NoneJoin ks → AreCut (parted ks) []
cut [] a n = tt
cut (k ∷ []) a n = by (passes ends_line (punct_of k))
  where
    by : (b : Bool) → AreCut (Token k ∷ (cond b (Blank 10 ∷ []) [] ++ [])) []
    by true = blank_cut k 10 [] a.0 refl (stops_plain k 10 quiet_10 refl refl) tt
    by false = (a.0, tt, tt)
cut (k ∷ next ∷ ks) a n = by (cut (next ∷ ks) a.1 n.1) (passes ends_line (punct_of k)) (passes holds_next (punct_of k)) (passes holds_last (punct_of next)) refl refl
  where
    rest : List Piece
    rest = parted (next ∷ ks)

    by : AreCut rest [] → (b c d : Bool) → passes holds_next (punct_of k) ≡ c → passes holds_last (punct_of next) ≡ d → AreCut (Token k ∷ (pieces_in (cond b LineFeed (cond (c || d) Nothing OneBlank)) ++ rest)) []
    by done true c d p q = blank_cut k 10 rest a.0 refl (stops_plain k 10 quiet_10 refl refl) done
    by done false true d p q = token_cut k rest a.0 (next_holds k p (flat_map written rest)) done
    by done false false true p q = token_cut k rest a.0 (last_holds k next q n.0 (flat_map written (behind next ks ++ parted ks))) done
    by done false false false p q = blank_cut k 32 rest a.0 refl (stops_plain k 32 quiet_32 refl refl) done

-- what the tokens among the pieces spell
pub kinds_stay : (ks : List LexemeKind) (at : Position) → kinds_of (lexemes_from at (parted ks)) ≡ ks
kinds_stay [] at = refl
kinds_stay (k ∷ ks) at = ap (λ l. k ∷ l) (by ks (kinds_stay ks) (fold past at (spelling k)))
  where
    last : (b : Bool) (p : Position) → kinds_of (lexemes_from p (cond b (Blank 10 ∷ []) [] ++ [])) ≡ []
    last true p = refl
    last false p = refl

    next : (g : gaps.Gap) (ps : List Piece) (js : List LexemeKind) → ((p : Position) → kinds_of (lexemes_from p ps) ≡ js) → (p : Position) → kinds_of (lexemes_from p (pieces_in g ++ ps)) ≡ js
    next LineFeed ps js f p = f (past p 10)
    next Nothing ps js f p = f p
    next OneBlank ps js f p = f (past p 32)

    by : (js : List LexemeKind) → ((p : Position) → kinds_of (lexemes_from p (parted js)) ≡ js) → (p : Position) → kinds_of (lexemes_from p (behind k js ++ parted js)) ≡ js
    by [] f p = last (passes ends_line (punct_of k)) p
    by (j ∷ js) f p = next (gap_of (punct_of k) (punct_of j)) (parted (j ∷ js)) (j ∷ js) f p
