-- Digits, the number that they write, and the digits that write a number.
use Rattle.std.proofs.Common.{◌≡◌, ℕ, zero, suc, ◌^◌, ◌<◌, ◌≤◌, Bool, true, false, cond, not, ◌&&◌, eqb, leb, List, [], ◌∷◌, length, take, get_or, Some, None, refl, sym, ap, ◌∙◌, subst, arith, rules}
use Rattle.std.specs.List.{list_all}
use Rattle.std.specs.Bool.{then_some}
use Rattle.std.specs.Char.{is_ascii_digit, digit_value}
use Rattle.std.specs.Str.Parse.{digits_value, AllDigits}
use Rattle.std.proofs.lemmas.Bool.Decides.{nat_tests}
use Rattle.std.specs.Fmt.{decimal}
use Rattle.std.proofs.lemmas.Bool.{and_parts, false≢true, leb-true, le-leb}
use Rattle.std.proofs.lemmas.Option.{cond_some}
use Rattle.std.proofs.lemmas.Fmt.{decimal_digit, first_decimal, decimal_nonempty, digits_decimal, digits_value-decimal, decimal-digits_value}
use Rattle.std.proofs.lemmas.Str.Parse.{IsNumeralModel, numerals_by_value, digits_value-take-le}
use Rattle.mm_names.specs.Decimals.{is_numeral, number_in}

-- the words for digits here are those of std
pub digits_model : IsNumeralModel (λ ds. list_all is_ascii_digit ds ≡ true) (digits_value 10)
digits_model = numerals_by_value _ (search rules)

-- a numeral has digits only
pub is_numeral-digits : (ds : List ℕ) → is_numeral ds ≡ true → list_all is_ascii_digit ds ≡ true
is_numeral-digits [] h = refl
is_numeral-digits (c ∷ []) h = rw h refl
is_numeral-digits (c ∷ d ∷ ds) h = (and_parts (not (eqb c 48)) (list_all is_ascii_digit (c ∷ d ∷ ds)) h).1

-- where a prefix of the digits is too great already, the number is
pub number_in-large : (limit : ℕ) (ds : List ℕ) (i : ℕ) → limit < digits_value 10 (take i ds) → number_in limit ds ≡ None
unfolding number_in
number_in-large limit ds i large =
    let prefix_le : digits_value 10 (take i ds) ≤ digits_value 10 ds = digits_value-take-le 10 ds i (omega arith) in
    grind (arith, nat_tests)

all_digit_at : (ds : List ℕ) (i : ℕ) → AllDigits 10 ds → i < length ds → digit_value (get_or ds i 0) < 10
all_digit_at [] i all h = absurd (omega arith)
all_digit_at (c ∷ cs) zero all h = all.0
all_digit_at (c ∷ cs) (suc i) all h = all_digit_at cs i all.1 (omega arith)

-- each character of a numeral is a digit
pub is_numeral-at : (ds : List ℕ) (i : ℕ) → is_numeral ds ≡ true → i < length ds → digit_value (get_or ds i 0) < 10
is_numeral-at ds i h = all_digit_at ds i (digits_model.to ds (is_numeral-digits ds h))

pub then_some-cond : {A : Type 0} (b : Bool) (x : A) → cond b (Some x) None ≡ then_some b x
then_some-cond true x = refl
then_some-cond false x = refl

-- a numeral is the number that it writes, up to the limit
pub number_in-whole : (limit n : ℕ) (ds : List ℕ) → is_numeral ds ≡ true → n ≡ digits_value 10 ds → number_in limit ds ≡ then_some (leb n limit) n
unfolding number_in
number_in-whole limit n ds numeral value = rw (numeral, value) (then_some-cond (leb (digits_value 10 ds) limit) (digits_value 10 ds))

is_numeral-nonempty : (ds : List ℕ) → is_numeral ds ≡ true → 0 < length ds
is_numeral-nonempty [] h = cc
is_numeral-nonempty (c ∷ ds) h = omega arith

-- no zero leads another digit
is_numeral-lead : (ds : List ℕ) → is_numeral ds ≡ true → get_or ds 0 0 ≡ 48 → length ds ≡ 1
is_numeral-lead [] h leading_zero = cc
is_numeral-lead (c ∷ []) h leading_zero = refl
is_numeral-lead (c ∷ d ∷ ds) h leading_zero =
    let no_zero = (and_parts (not (eqb c 48)) (list_all is_ascii_digit (c ∷ d ∷ ds)) h).0 in
    absurd (false≢true (rw leading_zero at no_zero))

not_equal : (a b : ℕ) → (a ≡ b → ⊥) → eqb a b ≡ false
not_equal a b apart = grind (arith, nat_tests)

is_numeral-from : (ds : List ℕ) → list_all is_ascii_digit ds ≡ true → 0 < length ds → (get_or ds 0 0 ≡ 48 → length ds ≡ 1) → is_numeral ds ≡ true
is_numeral-from [] digits some lead = absurd (omega arith)
is_numeral-from (c ∷ []) digits some lead = (and_parts (is_ascii_digit c) true digits).0
is_numeral-from (c ∷ d ∷ ds) digits some lead =
    let no_zero : eqb c 48 ≡ false = not_equal c 48 (λ leading_zero. absurd (omega (arith, lead leading_zero))) in
    rw (no_zero, digits) refl

-- what is read is what the number writes
pub number_in-writes : (limit n : ℕ) (ds : List ℕ) → limit < 2 ^ 64 → number_in limit ds ≡ Some n → (decimal n ≡ ds) × (n ≤ limit)
unfolding number_in
number_in-writes limit n ds small h =
    let parts = cond_some (is_numeral ds && leb (digits_value 10 ds) limit) (digits_value 10 ds) n h in
    let tests = and_parts (is_numeral ds) (leb (digits_value 10 ds) limit) parts.0 in
    let few : digits_value 10 ds ≤ limit = leb-true (digits_value 10 ds) limit tests.1 in
    let writes : decimal (digits_value 10 ds) ≡ ds = decimal-digits_value digits_model ds (is_numeral-digits ds tests.0) (is_numeral-nonempty ds tests.0) (is_numeral-lead ds tests.0) (omega arith) in
    (subst (λ m. decimal m ≡ ds) parts.1 writes, omega (arith, parts.1))

decimal-lead : (n : ℕ) → n < 2 ^ 64 → get_or (decimal n) 0 0 ≡ 48 → length (decimal n) ≡ 1
decimal-lead zero h leading_zero = ap length (decimal_digit 0 (omega arith))
decimal-lead (suc n) h leading_zero = absurd (omega (arith, first_decimal (suc n) (omega arith) h))

-- a number writes digits, and one at least
pub decimal-digits : (n : ℕ) → n < 2 ^ 64 → list_all is_ascii_digit (decimal n) ≡ true
decimal-digits n h = digits_decimal digits_model n h

-- what a number writes is read
pub number_in-decimal : (limit n : ℕ) → limit < 2 ^ 64 → n ≤ limit → number_in limit (decimal n) ≡ Some n
number_in-decimal limit n small few =
    let fits : n < 2 ^ 64 = omega arith in
    let numeral = is_numeral-from (decimal n) (decimal-digits n fits) (decimal_nonempty n fits) (decimal-lead n fits) in
    let value : n ≡ digits_value 10 (decimal n) = sym (digits_value-decimal digits_model n fits) in
    number_in-whole limit n (decimal n) numeral value ∙ rw (le-leb n limit few) refl
