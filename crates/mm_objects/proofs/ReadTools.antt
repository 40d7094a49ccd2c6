-- Tools for laws of readers: what is read is spelled so, and what is spelled so is read.
use Rattle.std.proofs.Common.{◌≡◌, ℕ, ◌<◌, ◌≤◌, ◌^◌, ◌-◌, Bool, true, false, cond, eqb, ltb, List, [], ◌∷◌, ◌++◌, length, take, drop, Option, Some, None, refl, ap, sym, ◌∙◌, subst, arith, inl, inr, ◌⊎◌}
use Rattle.std.specs.List.{list_all}
use Rattle.std.specs.Option.{option_or}
use Rattle.std.specs.Str.{bytes_eq}
use Rattle.std.specs.Fmt.{decimal}
use Rattle.std.specs.Char.{is_ascii_digit}
use Rattle.std.proofs.lemmas.Bool.{and_parts, ltb-true, lt-ltb, false_from_ne_true, both_ways}
use Rattle.std.proofs.lemmas.Bool.Decides.{nat_tests}
use Rattle.std.proofs.lemmas.Fmt.{decimal_nonempty}
use Rattle.std.proofs.lemmas.List.{take-append-drop}
use Rattle.std.proofs.Math.Seq.{take-append_seam, drop-append_seam}
use Rattle.std.proofs.lemmas.Option.{cond_some}
use Rattle.std.proofs.lemmas.Slice.Eq.{bytes_eq-Decides}
use Rattle.mm_names.specs.Decimals.{number_in}
use Rattle.mm_names.proofs.Numerals.{number_in-writes, number_in-decimal, decimal-digits}
use Rattle.mm_objects.specs.ObjectText.{Word}
use Rattle.mm_objects.specs.ObjectForms.{IsBelow}
use Rattle.mm_objects.specs.LineReading.{◌>>=◌, behind, below_in}

-- what is read is such a thing and spelled so, and each such thing is read from its spelling
pub record Reads {W A : Type 0} (Is : A → Type 0) (spell : A → W) (read : W → Option A) : Type 0 where
  pub sound : (w : W) (a : A) → read w ≡ Some a → Is a × (spell a ≡ w)
  pub again : (a : A) → Is a → read (spell a) ≡ Some a

pub some_same : {A : Type 0} (a b : A) → Some a ≡ Some b → a ≡ b
some_same a b h = cc

pub bind_some : {A B : Type 0} (o : Option A) (go : A → Option B) (b : B) → (o >>= go) ≡ Some b → (a : A) × (o ≡ Some a) × (go a ≡ Some b)
bind_some None go b h = cc
bind_some (Some a) go b h = (a, refl, h)

pub bind_at : {A B : Type 0} (o : Option A) (go : A → Option B) (a : A) (r : Option B) → o ≡ Some a → go a ≡ r → (o >>= go) ≡ r
bind_at o go a r is then' = ap (λ x. x >>= go) is ∙ then'

pub or_some : {A : Type 0} (o p : Option A) (a : A) → option_or o p ≡ Some a → (o ≡ Some a) ⊎ (p ≡ Some a)
or_some None p a h = inr h
or_some (Some x) p a h = inl h

pub chosen : {A : Type 0} (b : Bool) (x y z : A) → cond b x y ≡ z → ((b ≡ true) × (x ≡ z)) ⊎ ((b ≡ false) × (y ≡ z))
chosen true x y z h = inl (refl, h)
chosen false x y z h = inr (refl, h)

pub word_is : (w key : Word) → bytes_eq w key ≡ true → w ≡ key
word_is w key h = (bytes_eq-Decides w key).0 h

pub same_word : (key : Word) → bytes_eq key key ≡ true
same_word key = (bytes_eq-Decides key key).1 refl

-- where the word is the key one thing is read, and else another
pub keyed : {A : Type 0} (w key : Word) (x y : Option A) (a : A) → cond (bytes_eq w key) x y ≡ Some a → ((w ≡ key) × (x ≡ Some a)) ⊎ (y ≡ Some a)
keyed w key x y a h = elim (chosen (bytes_eq w key) x y (Some a) h) [ inl p ↦ inl (word_is w key p.0, p.1) | inr p ↦ inr p.1 ]

pub keyed_only : {A : Type 0} (w key : Word) (x : Option A) (a : A) → cond (bytes_eq w key) x None ≡ Some a → (w ≡ key) × (x ≡ Some a)
keyed_only w key x a h = elim (keyed w key x None a h) [ inl p ↦ p | inr n ↦ absurd (cc) ]

pub key_at : {A : Type 0} (key : Word) (x y : A) → cond (bytes_eq key key) x y ≡ x
key_at key x y = ap (λ b. cond b x y) (same_word key)

pub eqb-self : (n : ℕ) → eqb n n ≡ true
eqb-self n = grind (arith, nat_tests)

-- ---- fronts

pub behind-sound : (prefix : List ℕ) (w : Word) (rest : List ℕ) → behind prefix w ≡ Some rest → prefix ++ rest ≡ w
behind-sound prefix w rest h =
    let parts = cond_some (bytes_eq (take (length prefix) w) prefix) (drop (length prefix) w) rest h in
    let first : take (length prefix) w ≡ prefix = word_is (take (length prefix) w) prefix parts.0 in
    (λ i. sym first i ++ sym parts.1 i) ∙ take-append-drop (length prefix) w

pub behind-again : (prefix rest : List ℕ) → behind prefix (prefix ++ rest) ≡ Some rest
behind-again prefix rest = rw (take-append_seam, drop-append_seam, same_word prefix) refl

-- ---- numbers

pub number-reads : (limit : ℕ) → limit < 2 ^ 64 → Reads (λ n. n ≤ limit) decimal (number_in limit)
number-reads limit small = record {
  sound = λ w n h. let p = number_in-writes limit n w small h in (p.1, p.0);
  again = λ n few. number_in-decimal limit n small few;
}

pub below-reads : (limit : ℕ) → Reads (IsBelow limit) decimal (below_in limit)
unfolding below_in
below-reads limit = record {
  sound = λ w n h.
      let b = bind_some (number_in (2 ^ 32 - 1) w) (λ n. cond (ltb n limit) (Some n) None) n h in
      let c = cond_some (ltb b.0 limit) b.0 n b.2 in
      let p = number_in-writes (2 ^ 32 - 1) b.0 w (omega arith) b.1 in
      let less : b.0 < limit = ltb-true b.0 limit c.0 in
      ((omega (arith, less, c.1), omega (arith, p.1, c.1)), subst (λ m. decimal m ≡ w) c.1 p.0);
  again = λ n is. bind_at (number_in (2 ^ 32 - 1) (decimal n)) _ n (Some n) (number_in-decimal (2 ^ 32 - 1) n (omega arith) (omega (arith, is.1))) (rw (lt-ltb n limit is.0) refl);
}

-- digits begin with a digit
pub record BeginsWithDigit (word : Word) : Type 0 where
  pub first : ℕ
  pub others : List ℕ
  pub is : word ≡ first ∷ others
  pub digit : is_ascii_digit first ≡ true

digit_first : (w : Word) → list_all is_ascii_digit w ≡ true → 0 < length w → BeginsWithDigit w
digit_first [] all some = absurd (omega arith)
digit_first (c ∷ cs) all some = record { first = c; others = cs; is = refl; digit = (and_parts (is_ascii_digit c) (list_all is_ascii_digit cs) all).0 }

pub decimal-begins : (n : ℕ) → n < 2 ^ 64 → BeginsWithDigit (decimal n)
decimal-begins n h = digit_first (decimal n) (decimal-digits n h) (decimal_nonempty n h)

digit_apart : (c k : ℕ) → is_ascii_digit c ≡ true → is_ascii_digit k ≡ false → c ≡ k → ⊥
digit_apart c k digit other same = both_ways (is_ascii_digit k) other (subst (λ d. is_ascii_digit d ≡ true) same digit)

head_same : (c k : ℕ) (cs ks : Word) → c ∷ cs ≡ k ∷ ks → c ≡ k
head_same c k cs ks h = cc

-- what begins with a digit is no word that begins otherwise
pub no_word : (w : Word) (k : ℕ) (ks : Word) → BeginsWithDigit w → is_ascii_digit k ≡ false → bytes_eq w (k ∷ ks) ≡ false
no_word w k ks b other = false_from_ne_true (bytes_eq w (k ∷ ks)) (λ same. digit_apart b.first k b.digit other (head_same b.first k b.others ks (sym b.is ∙ word_is w (k ∷ ks) same)))

-- and has no front that begins otherwise
pub no_prefix : (w : Word) (k : ℕ) (ks : Word) → BeginsWithDigit w → is_ascii_digit k ≡ false → behind (k ∷ ks) w ≡ None
no_prefix w k ks b other =
    ap (λ v. cond v (Some (drop (length (k ∷ ks)) w)) None) (false_from_ne_true (bytes_eq (take (length (k ∷ ks)) w) (k ∷ ks)) (λ same.
    let found : behind (k ∷ ks) w ≡ Some (drop (length (k ∷ ks)) w) = rw same refl in
    digit_apart b.first k b.digit other (head_same b.first k b.others _ (sym b.is ∙ sym (behind-sound (k ∷ ks) w _ found)))))
