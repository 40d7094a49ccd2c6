-- Lemmas on bytes that are known, and that move in several steps.
use Rattle.std.proofs.Common.{◌≡◌, ◌≤◌, ◌<◌, ◌+◌, ◌-◌, ℕ, List, [], ◌++◌, length, take, drop, ap, sym, ◌∙◌, append_assoc, arith, length-append, length-drop, min}
use Rattle.std.specs.declared.option.Option.{Option}
use Rattle.std.specs.Io.KnownBytes.{Appends, Consumes, Keeps}
use Rattle.mm_outside.specs.Whole.{GaveMore, GaveWithin, WritesPrefix}
use Rattle.std.proofs.KnownBytes.{Appends-kept, Appends-trans, Consumes-trans}
use Rattle.std.proofs.lemmas.List.{take-append-drop, take-append-le, length-take-le, take_all, drop_all, drop-drop}
use Rattle.std.proofs.lemmas.Grind.{common_steps}

-- what is left of a slice behind its first n, as `&s[n..]` gives it
pub rest_is : (s : List ℕ) (n : ℕ) → take (length s - n) (drop n s) ≡ drop n s
rest_is s n = grind (arith, common_steps)

-- the first n bytes were written, and then nothing
pub some_written : (a b c : Option (List ℕ)) (bytes : List ℕ) (n : ℕ) → Appends a b (take n bytes) → Keeps b c → WritesPrefix a c bytes
some_written a b c bytes n took kept = (take n bytes, drop n bytes, sym (take-append-drop n bytes), Appends-kept a b c (take n bytes) took kept)

-- one more piece of the bytes is written
pub wrote_more : (bytes rest : List ℕ) (n : ℕ) (a b c : Option (List ℕ))
    → (prefix : List ℕ) × (bytes ≡ prefix ++ rest) × Appends a b prefix
    → Appends b c (take n rest)
    → (prefix : List ℕ) × (bytes ≡ prefix ++ take (length rest - n) (drop n rest)) × Appends a c prefix
wrote_more bytes rest n a b c before piece =
    let split : bytes ≡ (before.0 ++ take n rest) ++ drop n rest
    = before.1 ∙ ap (λ l. before.0 ++ l) (sym (take-append-drop n rest)) ∙ sym (append_assoc before.0 (take n rest) (drop n rest)) in
    (before.0 ++ take n rest, rw (rest_is rest n) split, Appends-trans a b c before.0 (take n rest) before.2 piece)

-- a source gave bytes, and then the first n of a buffer
gave_both : (bytes buf : List ℕ) (n : ℕ) (a b c : Option (List ℕ)) → Consumes a b bytes → Consumes b c (take n buf) → n ≤ length buf
    → (given : List ℕ) × (length given ≡ length bytes + n) × Consumes a c given
gave_both bytes buf n a b c before piece fits =
    (bytes ++ take n buf, simp (length-append, length-take-le n buf fits), Consumes-trans a b c bytes (take n buf) before piece)

-- together they are one more than the limit
pub gave_more : (limit : ℕ) (bytes buf : List ℕ) (n : ℕ) (a b c : Option (List ℕ)) → Consumes a b bytes → Consumes b c (take n buf) → n ≤ length buf
    → length bytes + n ≡ limit + 1 → GaveMore limit a c
gave_more limit bytes buf n a b c before piece fits is =
    let both = gave_both bytes buf n a b c before piece fits in (both.0, both.1 ∙ is, both.2)

-- together they are no more than the limit
pub gave_within : (limit : ℕ) (bytes buf : List ℕ) (n : ℕ) (a b c : Option (List ℕ)) → Consumes a b bytes → Consumes b c (take n buf) → n ≤ length buf
    → length bytes + n ≤ limit → GaveWithin limit a c
gave_within limit bytes buf n a b c before piece fits within =
    let both = gave_both bytes buf n a b c before piece fits in (both.0, rw both.1 within, both.2)

-- the first n bytes from `at` on were copied to the start of a buffer
pub copied_from : (n at : ℕ) (bytes copied behind : List ℕ) → n ≤ length (drop at bytes) → copied ≡ take n (drop at bytes)
    → drop at bytes ≡ take n (copied ++ behind) ++ drop (at + n) bytes
copied_from n at bytes copied behind fits is =
    let long : length copied ≡ n = ap length is ∙ length-take-le n (drop at bytes) fits in
    let prefix : take n (copied ++ behind) ≡ take n (drop at bytes) = take-append-le n copied behind (omega arith) ∙ take_all n copied (omega arith) ∙ is in
    rw prefix (sym (take-append-drop n (drop at bytes)) ∙ ap (λ l. take n (drop at bytes) ++ l) (drop-drop n at bytes))

-- where none was moved, though there was room for some, none is left
pub none_left : (n piece room at : ℕ) (bytes : List ℕ) → n ≡ min (min piece room) (length (drop at bytes)) → 1 ≤ piece → 0 < room
    → n ≡ 0 → drop (at + n) bytes ≡ []
none_left n piece room at bytes is some more none =
    let short : length bytes ≤ at + n = omega (arith, length-drop at bytes) in
    drop_all (at + n) bytes short
