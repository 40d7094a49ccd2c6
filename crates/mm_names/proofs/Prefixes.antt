-- The longest prefix of a list whose elements pass a test, and what stands behind it.
use Rattle.std.proofs.Common.{◌≡◌, ℕ, suc, ◌+◌, Bool, true, false, cond, List, [], ◌∷◌, ◌++◌, length, take, drop, refl, arith}
use lib.Utf8.{scalar}
use Rattle.std.specs.Str.{all_scalars}
use Rattle.std.specs.List.{prefix_len, AllPass}
use Rattle.std.proofs.lemmas.Bool.{and_parts}
use Rattle.std.proofs.lemmas.Grind.{common_steps}
use Rattle.std.proofs.lemmas.List.Elements.{All-nil, All-cons, All-head, All-tail}
use Rattle.mm_names.specs.Prefixes.{StopsAt}

-- the elements of the longest prefix pass the test, and what stands behind it stops there
pub record IsRun (test : ℕ → Bool) (text : List ℕ) : Type 0 where
  pub pass : AllPass test (take (prefix_len test text) text)
  pub stops : StopsAt test (drop (prefix_len test text) text)

at_run : (test : ℕ → Bool) (c : ℕ) (cs : List ℕ) → IsRun test cs → (b : Bool) → test c ≡ b → AllPass test (take (cond b (1 + prefix_len test cs) 0) (c ∷ cs)) × StopsAt test (drop (cond b (1 + prefix_len test cs) 0) (c ∷ cs))
at_run test c cs run true is =
    let one_more : 1 + prefix_len test cs ≡ suc (prefix_len test cs) = omega arith in
    rw one_more (All-cons (λ x. test x ≡ true) c (take (prefix_len test cs) cs) is run.pass, run.stops)
at_run test c cs run false is = (All-nil (λ x. test x ≡ true), is)

pub run_at_prefix : (test : ℕ → Bool) (text : List ℕ) → IsRun test text
run_at_prefix test [] = record { pass = All-nil (λ x. test x ≡ true); stops = tt }
run_at_prefix test (c ∷ cs) =
    let parts = at_run test c cs (run_at_prefix test cs) (test c) refl in
    record { pass = parts.0; stops = parts.1 }

-- what stops there has no longer prefix
stopped : (test : ℕ → Bool) (rest : List ℕ) → StopsAt test rest → prefix_len test rest ≡ 0
stopped test [] stops = refl
stopped test (c ∷ cs) stops = rw stops refl

-- passing elements before what stops there are the longest prefix
pub prefix_len-append : (test : ℕ → Bool) (run rest : List ℕ) → AllPass test run → StopsAt test rest → prefix_len test (run ++ rest) ≡ length run
prefix_len-append test [] rest pass stops = stopped test rest stops
prefix_len-append test (c ∷ cs) rest pass stops =
    rw (All-head (λ x. test x ≡ true) c cs pass) (grind (arith, common_steps, prefix_len-append test cs rest (All-tail (λ x. test x ≡ true) c cs pass) stops))

-- a prefix and the rest behind it
pub take-prefix : (run rest : List ℕ) (n : ℕ) → n ≡ length run → take n (run ++ rest) ≡ run
take-prefix run rest n is = grind (arith, common_steps)

pub drop-prefix : (run rest : List ℕ) (n : ℕ) → n ≡ length run → drop n (run ++ rest) ≡ rest
drop-prefix run rest n is = grind (arith, common_steps)

-- nothing stops where the test never passes
pub stops_never : (rest : List ℕ) → StopsAt (λ c. false) rest
stops_never [] = tt
stops_never (c ∷ cs) = refl

-- the characters of two parts
pub all_scalars-parts : (xs ys : List ℕ) → all_scalars (xs ++ ys) ≡ true → (all_scalars xs ≡ true) × (all_scalars ys ≡ true)
all_scalars-parts [] ys h = (refl, h)
all_scalars-parts (x ∷ xs) ys h =
    let here = and_parts (scalar x) (all_scalars (xs ++ ys)) h in
    let rest = all_scalars-parts xs ys here.1 in
    (rw here.0 rest.0, rest.1)
