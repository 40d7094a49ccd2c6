-- What a table of definitions has after more of them.
use Rattle.std.proofs.Common.{◌≡◌, ℕ, ◌+◌, ◌<◌, ◌≤◌, List, [], ◌∷◌, ◌++◌, length, take, get_or, filter, Bool, true, false, cond, ◌||◌, is_some, Option, None, Some, refl, sym, ◌∙◌, ap, arith}
use Rattle.std.proofs.lemmas.List.{take_more, take_all}
use Rattle.std.specs.List.{find}
use Rattle.std.specs.Option.{option_or}
use Rattle.mm_definitions.specs.declared.kinds.Kind.{Kind}
use Rattle.mm_definitions.specs.declared.kinds.Kind.TheVariants.{Struct, Enum, Closure}
use Rattle.mm_definitions.specs.declared.named.Named.{Named}
use Rattle.mm_definitions.specs.declared.kinds.Wanted.{Wanted}
use Rattle.mm_definitions.specs.declared.kinds.Wanted.TheVariants.{One, Adt, Whole}
use Rattle.mm_resolve.specs.Resolving.{is_named, first_of, look_up}
use Rattle.mm_resolve.specs.Scopes.{Scope, Knows, all, visible, found}
use Rattle.mm_resolve.specs.declared.scope_table.ScopeTable.{ScopeTable}

module _ {X : Type 0} where
  pub or_or : (a b c : Option X) → option_or (option_or a b) c ≡ option_or a (option_or b c)
  or_or None b c = refl
  or_or (Some x) b c = refl

  pub or_none : (a : Option X) → option_or a None ≡ a
  or_none None = refl
  or_none (Some x) = refl

  cond_or : (b : Bool) (x : X) (o r : Option X) → cond b (Some x) (option_or o r) ≡ option_or (cond b (Some x) o) r
  cond_or true x o r = refl
  cond_or false x o r = refl

  pub find-append : (test : X → Bool) (xs ys : List X) → find test (xs ++ ys) ≡ option_or (find test xs) (find test ys)
  find-append test [] ys = refl
  find-append test (x ∷ xs) ys = ap (cond (test x) (Some x)) (find-append test xs ys) ∙ cond_or (test x) x (find test xs) (find test ys)

  filter-one : (test : X → Bool) (xs : List X) (x : X) → filter test (xs ++ x ∷ []) ≡ filter test xs ++ cond (test x) (x ∷ []) []
  filter-one test [] x = at (test x)
    where
      at : (b : Bool) → cond b (x ∷ []) [] ≡ cond b (x ∷ []) []
      at b = refl
  filter-one test (y ∷ ys) x = ap (λ rest. cond (test y) (y ∷ rest) rest) (filter-one test ys x) ∙ at (test y)
    where
      at : (b : Bool) → cond b (y ∷ filter test ys ++ cond (test x) (x ∷ []) []) (filter test ys ++ cond (test x) (x ∷ []) []) ≡ cond b (y ∷ filter test ys) (filter test ys) ++ cond (test x) (x ∷ []) []
      at true = refl
      at false = refl

module _ (defs : List Named) (i : ℕ) (kind : Kind) (path : List ℕ) (d : Named) where
  -- after the next definition, where it is one of those that are kept
  pub kept_more : (keep : Named → Bool) (before new now : Option Named) → now ≡ option_or before (first_of (filter keep (take i defs)) kind path) → i < length defs → d ≡ get_or defs i d
      → new ≡ option_or now (first_of (cond (keep d) (d ∷ []) []) kind path) → new ≡ option_or before (first_of (filter keep (take (i + 1) defs)) kind path)
  kept_more keep before new now so_far l at added =
      added
      ∙ ap (λ o. option_or o (first_of (cond (keep d) (d ∷ []) []) kind path)) so_far
      ∙ or_or before (first_of (filter keep (take i defs)) kind path) (first_of (cond (keep d) (d ∷ []) []) kind path)
      ∙ ap (option_or before) (sym (find-append (is_named kind path) (filter keep (take i defs)) (cond (keep d) (d ∷ []) [])))
      ∙ ap (λ ds. option_or before (first_of ds kind path)) (sym (filter-one keep (take i defs) d))
      ∙ ap (λ ds. option_or before (first_of (filter keep ds) kind path)) (sym (take_more defs i d l ∙ ap (λ y. take i defs ++ y ∷ []) (sym at)))

  -- after the next definition
  pub all_more : (before new now : Option Named) → now ≡ option_or before (first_of (take i defs) kind path) → i < length defs → d ≡ get_or defs i d
      → new ≡ option_or now (cond (is_named kind path d) (Some d) None) → new ≡ option_or before (first_of (take (i + 1) defs) kind path)
  all_more before new now so_far l at added =
      added
      ∙ ap (λ o. option_or o (first_of (d ∷ []) kind path)) so_far
      ∙ or_or before (first_of (take i defs) kind path) (first_of (d ∷ []) kind path)
      ∙ ap (option_or before) (sym (find-append (is_named kind path) (take i defs) (d ∷ [])))
      ∙ ap (λ ds. option_or before (first_of ds kind path)) (sym (take_more defs i d l ∙ ap (λ y. take i defs ++ y ∷ []) (sym at)))

-- a table that resolves as these definitions say resolves as these and others say, when it has the others too
pub after_more : (before defs : List Named) (old new : Kind → List ℕ → Option Named) → old ≡ first_of before → ((kind : Kind) (path : List ℕ) → new kind path ≡ option_or (old kind path) (first_of defs kind path)) → new ≡ first_of (before ++ defs)
after_more before defs old new was more = λ j kind path. (
    more kind path ∙ ap (λ first. option_or (first kind path) (first_of defs kind path)) was ∙ sym (find-append (is_named kind path) before defs)) j

some_or : {X : Type 0} (a b : Option X) → is_some (option_or a b) ≡ is_some a || is_some b
some_or None b = refl
some_or (Some x) b = refl

crossed : (a b c d : Bool) → (a || b) || (c || d) ≡ (a || c) || (b || d)
crossed true b c d = refl
crossed false true true d = refl
crossed false true false d = refl
crossed false false c d = refl

either_apart : (xs ys : List Named) (one other : Kind) (path : List ℕ)
    → is_some (option_or (first_of (xs ++ ys) one path) (first_of (xs ++ ys) other path)) ≡ is_some (option_or (first_of xs one path) (first_of xs other path)) || is_some (option_or (first_of ys one path) (first_of ys other path))
either_apart xs ys one other path =
    let a = first_of xs one path in
    let b = first_of ys one path in
    let c = first_of xs other path in
    let d = first_of ys other path in
    some_or (first_of (xs ++ ys) one path) (first_of (xs ++ ys) other path)
    ∙ ap (λ o. is_some o || is_some (first_of (xs ++ ys) other path)) (find-append (is_named one path) xs ys)
    ∙ ap (λ o. is_some (option_or a b) || is_some o) (find-append (is_named other path) xs ys)
    ∙ ap (λ t. t || is_some (option_or c d)) (some_or a b)
    ∙ ap (λ t. (is_some a || is_some b) || t) (some_or c d)
    ∙ crossed (is_some a) (is_some b) (is_some c) (is_some d)
    ∙ ap (λ t. t || (is_some b || is_some d)) (sym (some_or a c))
    ∙ ap (λ t. is_some (option_or a c) || t) (sym (some_or b d))

-- what is found among two lists is found in one of them
pub found_apart : (xs ys : List Named) (wanted : Wanted) (path : List ℕ)
    → is_some (found (first_of (xs ++ ys)) wanted path) ≡ is_some (found (first_of xs) wanted path) || is_some (found (first_of ys) wanted path)
found_apart xs ys (One kind) path = ap is_some (find-append (is_named kind path) xs ys) ∙ some_or (first_of xs kind path) (first_of ys kind path)
found_apart xs ys Adt path = either_apart xs ys Struct Enum path
found_apart xs ys Whole path = either_apart xs ys Struct Closure path

or_left : (a b : Bool) → b ≡ true → true ≡ a || b
or_left true b h = refl
or_left false b h = sym h

or_right : (a b : Bool) → b ≡ false → a ≡ a || b
or_right true b h = refl
or_right false b h = sym h

module _ (tables : ScopeTable) (scope : Scope) (wanted : Wanted) (path : List ℕ) (knows : Knows tables scope) where
  here : is_some (found (look_up tables.own) wanted path) ≡ is_some (found (first_of scope.own) wanted path)
  here = ap (λ first. is_some (found first wanted path)) knows.own

  shared : is_some (found (look_up tables.shared) wanted path) ≡ is_some (found (first_of (filter (λ d. d.is_pub) scope.earlier)) wanted path)
  shared = ap (λ first. is_some (found first wanted path)) knows.shared

  apart : is_some (found (first_of (visible scope)) wanted path) ≡ is_some (found (look_up tables.shared) wanted path) || is_some (found (look_up tables.own) wanted path)
  apart = found_apart (filter (λ d. d.is_pub) scope.earlier) scope.own wanted path ∙ ap (λ t. t || is_some (found (first_of scope.own) wanted path)) (sym shared) ∙ ap (λ t. is_some (found (look_up tables.shared) wanted path) || t) (sym here)

  pub seen_own : (result : Bool) → result ≡ is_some (found (look_up tables.own) wanted path) → result ≡ true → result ≡ is_some (found (first_of (visible scope)) wanted path)
  seen_own result is so = so ∙ or_left (is_some (found (look_up tables.shared) wanted path)) (is_some (found (look_up tables.own) wanted path)) (sym is ∙ so) ∙ sym apart

  pub seen_shared : (result own : Bool) → own ≡ is_some (found (look_up tables.own) wanted path) → own ≡ false → result ≡ is_some (found (look_up tables.shared) wanted path) → result ≡ is_some (found (first_of (visible scope)) wanted path)
  seen_shared result own here' none is = is ∙ or_right (is_some (found (look_up tables.shared) wanted path)) (is_some (found (look_up tables.own) wanted path)) (sym here' ∙ none) ∙ sym apart
