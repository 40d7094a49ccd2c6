-- The verdict on a program is one, and how the least of all notes tells it.
use Rattle.std.proofs.Common.{◌≡◌, ◌≢◌, ℕ, ◌≤◌, List, [], ◌∷◌, ◌++◌, length, None, Some, Err, All, Contains, refl, sym, ap, subst, ◌∙◌, arith, ⊎_elim}
use Rattle.std.specs.Prelude.{flat_map}
use Rattle.std.specs.List.Sorted.{IsPermutation}
use Rattle.std.specs.declared.cmp.Ordering.TheVariants.{Less}
use Rattle.std.proofs.lemmas.List.Elements.{All-nil, All-cons, All-weaker, All-contains, Contains-append_left, Contains-append_right, Contains-append_cases}
use Rattle.mm_terms.specs.declared.item.Item.{Item}
use Rattle.mm_terms.specs.Closure.{IsMember, AreMembers}
use Rattle.mm_terms.proofs.ClosureLemmas.{more_is_longer, one_closure}
use Rattle.mm_plain.specs.declared.over.Over.{Over}
use Rattle.mm_plain.specs.declared.program.Opts.{Opts}
use Rattle.mm_plain.specs.declared.program.Program.{Program}
use Rattle.std.specs.declared.result.Result.{Result}
use Rattle.mm_collect.specs.declared.fault.CollectFault.{CollectFault}
use Rattle.mm_collect.specs.declared.fault.CollectFault.TheVariants.{TypeLength}
use Rattle.mm_plain.specs.Notes.{note_cmp, IsLeast}
use Rattle.mm_plain.specs.Roots.{roots_of}
use Rattle.mm_plain.specs.Uses.{uses_of, notes_of}
use Rattle.mm_plain.specs.Verdict.{over, IsNoted, IsTooMany, IsTooLong, IsAccepted}
use Rattle.mm_collect.proofs.NoteLemmas.{one_note}

-- ---- what the members note

module _ {N : Type 0} (notes : Item → List N) where
  kept : (x : Item) (xs : List Item) → All (λ y. (note : N) → Contains (notes y) note → Contains (flat_map notes xs) note) xs → All (λ y. (note : N) → Contains (notes y) note → Contains (notes x ++ flat_map notes xs) note) xs
  kept x xs each =
      All-weaker (λ y. (note : N) → Contains (notes y) note → Contains (flat_map notes xs) note)
      (λ y. (note : N) → Contains (notes y) note → Contains (notes x ++ flat_map notes xs) note)
      (λ y has note noted. Contains-append_right (notes x) (flat_map notes xs) note (has note noted)) xs each

  each_in : (xs : List Item) → All (λ y. (note : N) → Contains (notes y) note → Contains (flat_map notes xs) note) xs
  each_in [] = All-nil (λ y. (note : N) → Contains (notes y) note → Contains (flat_map notes []) note)
  each_in (x ∷ xs) =
      All-cons (λ y. (note : N) → Contains (notes y) note → Contains (flat_map notes (x ∷ xs)) note) x xs
      (λ note noted. Contains-append_left (notes x) (flat_map notes xs) note noted)
      (kept x xs (each_in xs))

  -- what one of the items notes is among all that they note
  pub noted_in : (xs : List Item) (x : Item) (note : N) → Contains xs x → Contains (notes x) note → Contains (flat_map notes xs) note
  noted_in xs x note has = All-contains (λ y. (note : N) → Contains (notes y) note → Contains (flat_map notes xs) note) xs x (each_in xs) has note

  first_in : (x : Item) (xs : List Item) → Contains (x ∷ xs) x
  first_in x xs = (0, omega arith, refl)

  -- and what is among all that they note, one of them notes
  noted_by : (xs : List Item) (note : N) → Contains (flat_map notes xs) note → (x : Item) × Contains xs x × Contains (notes x) note
  noted_by [] note has = absurd (let none = has.1 in omega arith)
  noted_by (x ∷ xs) note has =
      ⊎_elim
      (λ here. (x, first_in x xs, here))
      (λ later. let rest = noted_by xs note later in (rest.0, Contains-append_right (x ∷ []) xs rest.0 rest.1, rest.2))
      (Contains-append_cases (notes x) (flat_map notes xs) note has)

-- ---- the least of them tells the verdict

module _ (p : Program) (opts : Opts) (items : List Item) (members : AreMembers (roots_of p) (uses_of p opts.length) items) (within : length items ≤ opts.items) where
  noted_among : (note : Over) → IsNoted p opts.length note → Contains (flat_map (notes_of p opts.length) items) note
  noted_among note noted = noted_in (notes_of p opts.length) items noted.0 note (members.all noted.0 noted.1) noted.2

  pub none_noted : IsLeast (flat_map (notes_of p opts.length) items) None → IsAccepted p opts items
  none_noted none =
      record {
        members = members;
        within = within;
        none = λ note noted. (let has = subst (λ notes. Contains notes note) none (noted_among note noted) in let past = has.1 in omega (arith, past));
      }

  pub least_noted : (path : List ℕ) (n : ℕ) → IsLeast (flat_map (notes_of p opts.length) items) (Some (over path n)) → IsTooLong p opts path n
  least_noted path n least =
      let by = noted_by (notes_of p opts.length) items (over path n) least.0 in
      record {
        items = items;
        members = members;
        within = within;
        noted = (by.0, All-contains (IsMember (roots_of p) (uses_of p opts.length)) items by.0 members.each by.1, by.2);
        least = λ other noted. All-contains (λ note. note_cmp note (over path n) ≢ Less) (flat_map (notes_of p opts.length) items) other least.1 (noted_among other noted);
      }

-- ---- the verdict is one

pub many_or_long : (p : Program) (opts : Opts) (path : List ℕ) (n : ℕ) → IsTooMany p opts → IsTooLong p opts path n → ⊥
many_or_long p opts path n many long =
    let longer = more_is_longer (roots_of p) (uses_of p opts.length) opts.items long.items many long.members in
    let within = long.within in
    omega (arith, longer, within)

pub many_or_accepted : (p : Program) (opts : Opts) (items : List Item) → IsTooMany p opts → IsAccepted p opts items → ⊥
many_or_accepted p opts items many accepted =
    let longer = more_is_longer (roots_of p) (uses_of p opts.length) opts.items items many accepted.members in
    let within = accepted.within in
    omega (arith, longer, within)

pub long_or_accepted : (p : Program) (opts : Opts) (path : List ℕ) (n : ℕ) (items : List Item) → IsTooLong p opts path n → IsAccepted p opts items → ⊥
long_or_accepted p opts path n items long accepted = accepted.none (over path n) long.noted

pub one_note_reported : (p : Program) (opts : Opts) (path other : List ℕ) (n m : ℕ) → IsTooLong p opts path n → IsTooLong p opts other m → (path ≡ other) × (n ≡ m)
one_note_reported p opts path other n m one two =
    one_note (over path n) (over other m) (two.least (over path n) one.noted) (one.least (over other m) two.noted)

pub one_listing : (p : Program) (opts : Opts) (items others : List Item) → IsAccepted p opts items → IsAccepted p opts others → IsPermutation items others
one_listing p opts items others one two = one_closure (roots_of p) (uses_of p opts.length) items others one.members two.members

-- ---- what an answer tells

reported_path : {X : Type 0} → Result X CollectFault → List ℕ
reported_path (Err (TypeLength path n)) = path
reported_path answer = []

reported_length : {X : Type 0} → Result X CollectFault → ℕ
reported_length (Err (TypeLength path n)) = n
reported_length answer = 0

-- one answer tells one path and one length
pub as_reported : {X : Type 0} (p : Program) (opts : Opts) (path other : List ℕ) (n m : ℕ) (answer : Result X CollectFault) → answer ≡ Err (TypeLength path n) → answer ≡ Err (TypeLength other m) → IsTooLong p opts path n → IsTooLong p opts other m
unfolding reported_path reported_length
as_reported p opts path other n m answer is was long =
    subst (IsTooLong p opts other) (ap reported_length (sym is ∙ was)) (subst (λ bytes. IsTooLong p opts bytes n) (ap reported_path (sym is ∙ was)) long)
