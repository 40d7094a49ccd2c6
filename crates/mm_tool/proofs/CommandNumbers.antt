-- Numbers of options: a text is one where it begins with a digit but zero, and is read as one within the limit.
use Rattle.std.proofs.Common.{◌≡◌, ℕ, zero, suc, ◌^◌, ◌<◌, ◌≤◌, List, length, get_or, Ok, Result, true, sym, ap, ◌∙◌, subst, arith, codes}
use Rattle.std.specs.Int.{IsInRange}
use Rattle.std.specs.Result.{OkIff}
use Rattle.std.specs.List.{list_all}
use Rattle.std.specs.Char.{is_ascii_digit}
use Rattle.std.specs.Fmt.{decimal}
use Rattle.std.specs.Str.Parse.{digits_value, ParsesUnsigned}
use Rattle.std.proofs.lemmas.Fmt.{decimal_digit, first_decimal, decimal_nonempty, digits_decimal, parse-decimal, decimal-digits_value}
use Rattle.std.proofs.lemmas.Str.Parse.{digit_at, parse_plain}
use Rattle.mm_tool.specs.WordReading.{IsNumber, IsCount}
use Rattle.mm_names.proofs.Numerals.{digits_model}

-- a number from 1 begins with a digit but zero
pub number_begins : (most n : ℕ) (digits : List ℕ) → most < 2 ^ 32 → IsNumber most digits n → IsInRange 49 57 (get_or digits 0 0)
number_begins most n digits small is =
    let fits : n < 2 ^ 64 = omega (arith, is.2) in
    let first = digit_at (decimal n) 0 (digits_model.to (decimal n) (digits_decimal digits_model n fits)) (decimal_nonempty n fits) in
    let above = first_decimal n is.1 fits in
    subst (λ ds. IsInRange 49 57 (get_or ds 0 0)) (sym is.0) (omega (arith, above), first.1)

-- it is read
pub number_read : {E : Type 0} → (most n : ℕ) (digits : List ℕ) (r : Result ℕ E) → most < 2 ^ 32 → ParsesUnsigned 32 10 digits r → IsNumber most digits n → r ≡ Ok n
number_read most n digits r small parses is = parse-decimal 32 n digits r (omega (arith, is.2)) (omega (arith, is.2)) is.0 parses

not_zero : (n : ℕ) (digits : List ℕ) → digits ≡ decimal n → 49 ≤ get_or digits 0 0 → 1 ≤ n
not_zero zero digits is first =
    let zero_first : get_or digits 0 0 ≡ 48 = ap (λ ds. get_or ds 0 0) (is ∙ decimal_digit 0 (omega arith)) in
    absurd (omega (arith, first, zero_first))
not_zero (suc n) digits is first = omega arith

-- what is read within the limit is one
pub read_number : {E : Type 0} → (most n : ℕ) (digits : List ℕ) (r : Result ℕ E) → ParsesUnsigned 32 10 digits r → IsInRange 49 57 (get_or digits 0 0) → r ≡ Ok n → n ≤ most → IsNumber most digits n
read_number {E} most n digits r parses begins is within =
    let P = (list_all is_ascii_digit digits ≡ true) × (0 < length digits) × (digits_value 10 digits < 2 ^ 32) in
    let plain = parse_plain digits_model 32 digits r parses (λ plus. absurd (omega (arith, begins.0, plus))) in
    let parts : OkIff {E = E} (Ok n) P (digits_value 10 digits) = subst (λ q. OkIff q P (digits_value 10 digits)) is plain in
    let writes : decimal (digits_value 10 digits) ≡ digits = decimal-digits_value digits_model digits parts.0.0 parts.0.1 (λ lead. absurd (omega (arith, begins.0, lead))) (omega (arith, parts.0.2)) in
    let same : digits ≡ decimal n = sym writes ∙ ap decimal (sym parts.1) in
    (same, not_zero n digits same begins.0, within)

-- a count is 0 or a number from 1
pub zero_counts : (most : ℕ) (digits : List ℕ) → digits ≡ codes "0" → IsCount most digits 0
zero_counts most digits is = (is ∙ sym (decimal_digit 0 (omega arith)), omega arith)

pub counts_from_one : (most n : ℕ) (digits : List ℕ) → IsCount most digits n → (digits ≡ codes "0" → ⊥) → IsNumber most digits n
counts_from_one most zero digits is other = absurd (other (is.0 ∙ decimal_digit 0 (omega arith)))
counts_from_one most (suc n) digits is other = (is.0, omega arith, is.1)
