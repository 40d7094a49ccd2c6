-- Positions behind characters.
use Rattle.std.proofs.Common.{◌≡◌, ℕ, ◌+◌, ◌≤◌, Bool, true, false, cond, eqb, List, [], ◌∷◌, ◌++◌, length, IsUtf8, refl, sym, ap, ◌∙◌, subst, arith, length-append}
use Rattle.std.specs.Prelude.{fold}
use Rattle.std.specs.Char.{encode_utf8, len_utf8}
use Rattle.std.specs.Str.{chars}
use Rattle.std.proofs.lemmas.Bool.Decides.{nat_tests}
use Rattle.std.proofs.lemmas.Str.{IsUtf8-past_char, chars_past_char, length-encode, len_utf8_bounds}
use Rattle.mm_lex.specs.declared.position.Position.{Position}
use Rattle.mm_lex.specs.Positions.{past}

-- Some characters of a text were passed, and the rest stands at the position.
pub record IsPassing (start at : Position) (text rest : List ℕ) : Type 0 where
  pub utf8 : IsUtf8 rest
  pub position : fold past at (chars rest) ≡ fold past start (chars text)
  pub offset : at.offset + length rest ≡ start.offset + length text
  pub line : at.line + length rest ≤ start.line + length text
  pub column : at.column + length rest ≤ start.column + length text

-- a character takes no more lines and columns than one
pub record IsStep (at after : Position) (c : ℕ) : Type 0 where
  pub offset : after.offset ≡ at.offset + len_utf8 c
  pub line : after.line ≤ at.line + 1
  pub column : after.column ≤ at.column + 1

pub one_step : (at : Position) (c : ℕ) → IsStep at (past at c) c
one_step at c = by_line (eqb c 10)
  where
    by_line : (b : Bool) → IsStep at (cond b (record { offset = at.offset + len_utf8 c; line = at.line + 1; column = 1 }) (record { offset = at.offset + len_utf8 c; line = at.line; column = at.column + 1 })) c
    by_line true = record { offset = refl; line = omega arith; column = omega arith }
    by_line false = record { offset = refl; line = omega arith; column = omega arith }

pub IsPassing-step : (start at after : Position) (text rest more : List ℕ) (c : ℕ) → IsPassing start at text rest → rest ≡ encode_utf8 c ++ more → after ≡ past at c → IsPassing start after text more
IsPassing-step start at after text rest more c passing is same =
    let step = subst (λ (p : Position). IsStep at p c) (sym same) (one_step at c) in
    let long : length rest ≡ len_utf8 c + length more = ap length is ∙ length-append (encode_utf8 c) more ∙ ap (λ n. n + length more) (length-encode c) in
    record {
      utf8 = IsUtf8-past_char rest more c passing.utf8 is;
      position = ap (λ (p : Position). fold past p (chars more)) same ∙ ap (fold past at) (sym (chars_past_char rest more c passing.utf8 is)) ∙ passing.position;
      offset = omega (arith, step.offset, long, passing.offset);
      line = omega (arith, step.line, long, passing.line, (len_utf8_bounds c).0);
      column = omega (arith, step.column, long, passing.column, (len_utf8_bounds c).0);
    }

-- what the next character leaves room for
pub IsPassing-room : (start at : Position) (text rest more : List ℕ) (c : ℕ) → IsPassing start at text rest → rest ≡ encode_utf8 c ++ more → (at.offset + len_utf8 c ≤ start.offset + length text) × (at.line + 1 ≤ start.line + length text) × (at.column + 1 ≤ start.column + length text)
IsPassing-room start at text rest more c passing is =
    let long : length rest ≡ len_utf8 c + length more = ap length is ∙ length-append (encode_utf8 c) more ∙ ap (λ n. n + length more) (length-encode c) in
    let one = (len_utf8_bounds c).0 in
    (omega (arith, long, passing.offset), omega (arith, long, passing.line), omega (arith, long, passing.column))

pub IsPassing-end : (start at : Position) (text rest : List ℕ) → IsPassing start at text rest → length rest ≡ 0 → at ≡ fold past start (chars text)
unfolding chars
IsPassing-end start at text [] passing none = passing.position
IsPassing-end start at text (b ∷ bs) passing none = absurd (omega (arith, none))

-- behind LF, and behind another character
abbrev pub behind : Bool → Position → ℕ → Position
behind true at n = record { offset = at.offset + n; line = at.line + 1; column = 1 }
behind false at n = record { offset = at.offset + n; line = at.line; column = at.column + 1 }

pub past-line : (at : Position) (c n : ℕ) → n ≡ len_utf8 c → c ≡ 10 → behind true at n ≡ past at c
past-line at c n long is = rw (long, is) refl

pub past-column : (at : Position) (c n : ℕ) → n ≡ len_utf8 c → (c ≡ 10 → ⊥) → behind false at n ≡ past at c
past-column at c n long other =
    let apart : eqb c 10 ≡ false = grind (arith, nat_tests) in
    rw (long, apart) refl
