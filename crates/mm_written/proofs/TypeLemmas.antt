-- Types by their parts.
use Rattle.std.proofs.Common.{◌≡◌, ℕ, ◌+◌, ◌<◌, ◌^◌, IsTrue, List, [], ◌∷◌, length, map, sum, drop, get_or, Bool, true, false, ◌&&◌, Option, None, Some, refl, sym, ap, ◌∙◌, arith}
use Rattle.std.specs.List.{list_all}
use Rattle.std.specs.Option.{SomeIff}
use Rattle.std.specs.Prelude.{nat_lt}
use Rattle.std.proofs.lemmas.Bool.{and_parts, both_ways, lt-ltb, ltb-true}
use Rattle.std.proofs.lemmas.List.{length-map}
use Rattle.std.proofs.lemmas.List.Folds.{list_all-map, list_all_at}
use Rattle.std.proofs.lemmas.List.Sums.{sum-map, sum_by-cons, sum_by-take-drop, sum_by-drop_more}
use Rattle.mm_ast.specs.declared.types.Head.{Head}
use Rattle.mm_ast.specs.declared.types.Type as types
use Rattle.mm_ast.specs.declared.types.Type.TheViews.{out-Type}
use Rattle.mm_ast.specs.declared.types.Type.TheFolds.{fold_out-Type}
use Rattle.mm_written.specs.Types.{type_fold, takes, formed, constructors, constructors_in, written_type}

abbrev pub head_of : types.«Type» → Head
head_of t = (out-Type t).head

abbrev pub children_of : types.«Type» → List types.«Type»
children_of t = (out-Type t).children

and_true : (b : Bool) → (b && true) ≡ b
and_true true = refl
and_true false = refl

and_false : (b : Bool) → (b && false) ≡ false
and_false true = refl
and_false false = refl

type_fold-parts : {A : Type 0} (step : Head → List A → A) (t : types.«Type») → type_fold step t ≡ step (head_of t) (map (type_fold step) (children_of t))
type_fold-parts {A} step t = fold_out-Type A (λ layer. step layer.head layer.children) t

-- the head, and then the children
pub formed-parts : (t : types.«Type») → formed t ≡ (takes (head_of t) (length (children_of t)) && list_all formed (children_of t))
unfolding formed
formed-parts t =
    type_fold-parts (λ head below. takes head (length below) && list_all (λ formed. formed) below) t
    ∙ (λ i. takes (head_of t) (length-map (children_of t) formed i) && list_all-map (λ formed. formed) formed (children_of t) i)

pub constructors-parts : (t : types.«Type») → constructors t ≡ 1 + constructors_in (children_of t)
unfolding constructors
constructors-parts t = type_fold-parts (λ head below. 1 + sum below) t

-- each head in these types takes the children that it has, and they have fewer than 2^32 constructors
abbrev pub Counted : List types.«Type» → Type 0
Counted types = IsTrue (list_all formed types) × (constructors_in types < 2 ^ 32)

-- what a type that is written is
pub written_type-is : (t : types.«Type») → IsTrue (written_type t) → (formed t ≡ true) × (constructors t < 2 ^ 32)
unfolding written_type
written_type-is t is =
    let both = and_parts (formed t) (nat_lt (constructors t) 4294967296) is in
    (both.0, ltb-true (constructors t) 4294967296 both.1)

written_type-same : (t : types.«Type») → constructors t < 2 ^ 32 → written_type t ≡ formed t
unfolding written_type
written_type-same t few = ap (λ b. formed t && b) (lt-ltb (constructors t) 4294967296 few) ∙ and_true (formed t)

written_type-makes : (t : types.«Type») → takes (head_of t) (length (children_of t)) ≡ true → IsTrue (list_all formed (children_of t)) → 1 + constructors_in (children_of t) < 2 ^ 32 → IsTrue (written_type t)
written_type-makes t takes below few =
    let is_formed : formed t ≡ true = formed-parts t ∙ ap (λ b. b && list_all formed (children_of t)) takes ∙ below in
    written_type-same t (omega (arith, constructors-parts t, few)) ∙ is_formed

-- ---- the walk over a type

-- a head that does not take the children that it has
pub not_taken : (t : types.«Type») (children : List types.«Type») → children ≡ children_of t → takes (head_of t) (length children) ≡ false → IsTrue (written_type t) → ⊥
not_taken t children are not_takes is =
    let here = and_parts (takes (head_of t) (length (children_of t))) (list_all formed (children_of t)) (sym (formed-parts t) ∙ (written_type-is t is).0) in
    both_ways (takes (head_of t) (length (children_of t))) (ap (λ l. takes (head_of t) (length l)) (sym are) ∙ not_takes) here.0

-- children that are not counted
pub not_below : (t : types.«Type») (children : List types.«Type») → children ≡ children_of t → (Counted children → ⊥) → IsTrue (written_type t) → ⊥
not_below t children are none is =
    let written = written_type-is t is in
    let here = and_parts (takes (head_of t) (length (children_of t))) (list_all formed (children_of t)) (sym (formed-parts t) ∙ written.0) in
    none (ap (list_all formed) are ∙ here.1, omega (arith, written.1, constructors-parts t, ap constructors_in are))

-- a head over children that are counted
pub counted_above : (t : types.«Type») (children : List types.«Type») (below : ℕ) (o : Option ℕ) → children ≡ children_of t → takes (head_of t) (length children) ≡ true → Counted children → below ≡ constructors_in children → SomeIff o (below + 1 < 2 ^ 32) (below + 1) → SomeIff o (IsTrue (written_type t)) (constructors t)
counted_above t children below None are takes_them counted is none = λ written. none (omega (arith, is, (written_type-is t written).1, constructors-parts t, ap constructors_in are))
counted_above t children below (Some n) are takes_them counted is some =
    let few : 1 + constructors_in (children_of t) < 2 ^ 32 = omega (arith, some.0, is, ap constructors_in are) in
    (written_type-makes t (ap (λ l. takes (head_of t) (length l)) (sym are) ∙ takes_them) (ap (list_all formed) (sym are) ∙ counted.0) few, omega (arith, some.1, is, ap constructors_in are, constructors-parts t))

-- one of several types, and those behind it
pub constructors_in-drop : (ts : List types.«Type») (i : ℕ) (t : types.«Type») → i < length ts → t ≡ get_or ts i t → constructors_in (drop i ts) ≡ constructors t + constructors_in (drop (i + 1) ts)
constructors_in-drop ts i t l at = omega (arith, sum-map constructors (drop i ts), sum_by-drop_more constructors ts i t l, sum-map constructors (drop (i + 1) ts), ap constructors at)

-- each of several types that are counted is written
pub each_counted : (ts : List types.«Type») (i : ℕ) (t : types.«Type») → i < length ts → t ≡ get_or ts i t → Counted ts → IsTrue (written_type t)
each_counted ts i t l at counted =
    let few : constructors t < 2 ^ 32 = omega (arith, counted.1, sum-map constructors ts, sum_by-take-drop constructors ts i, sum-map constructors (drop i ts), constructors_in-drop ts i t l at) in
    written_type-same t few ∙ by_test (formed t) refl
  where
    by_test : (b : Bool) → formed t ≡ b → formed t ≡ true
    by_test true is = is
    by_test false is = absurd (both_ways (list_all formed ts) (list_all_at formed ts i t l (ap formed (sym at) ∙ is)) counted.0)

-- ---- types below one constructor

all_written : (ts : List types.«Type») → constructors_in ts < 2 ^ 32 → list_all written_type ts ≡ list_all formed ts
all_written [] few = refl
all_written (t ∷ ts) few =
    let more = sum_by-cons (λ n. n) (constructors t) (map constructors ts) in
    let here : written_type t ≡ formed t = written_type-same t (omega (arith, few, more)) in
    let others : list_all written_type ts ≡ list_all formed ts = all_written ts (omega (arith, few, more)) in
    (λ i. here i && others i)

pub below_one : (ts : List types.«Type») → (list_all written_type ts && nat_lt (1 + constructors_in ts) 4294967296) ≡ (list_all formed ts && nat_lt (1 + constructors_in ts) 4294967296)
below_one ts = by_test (nat_lt (1 + constructors_in ts) 4294967296) refl
  where
    by_test : (b : Bool) → nat_lt (1 + constructors_in ts) 4294967296 ≡ b → (list_all written_type ts && b) ≡ (list_all formed ts && b)
    by_test true is = ap (λ all. all && true) (all_written ts (omega (arith, ltb-true (1 + constructors_in ts) 4294967296 is)))
    by_test false is = and_false (list_all written_type ts) ∙ sym (and_false (list_all formed ts))
