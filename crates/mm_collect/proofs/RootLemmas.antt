-- The roots among the first functions, one function more, and all of them; and the marks of what generic bodies name.
use Rattle.std.proofs.Common.{◌≡◌, ℕ, ◌+◌, ◌<◌, ◌≤◌, List, [], ◌∷◌, ◌++◌, ◌||◌, length, take, map, set, Bool, cond, get_or, nat_eq, ap, ◌∙◌, sym, refl, true, false, zero-add, append-nil, append_assoc, arith, subst}
use Rattle.std.specs.Prelude.{filter, flat_map}
use Rattle.std.specs.List.{enumerate_from}
use Rattle.std.proofs.lemmas.Bool.{eqb-true, eqb-false}
use Rattle.std.proofs.lemmas.Grind.{get_or-set_at}
use Rattle.std.proofs.lemmas.List.{map-append, take_all, take_more, get_or-set_other, length-set}
use Rattle.std.proofs.lemmas.List.Concat.{flat_map-append}
use Rattle.std.proofs.lemmas.List.Elements.{filter_more}
use Rattle.std.proofs.lemmas.List.Folds.{list_any-append}
use Rattle.std.proofs.lemmas.List.FromFn.{length-enumerate_from, get_or-enumerate_from}
use Rattle.mm_terms.specs.declared.item.Item.{Item}
use Rattle.mm_plain.specs.declared.program.Program.{Program}
use Rattle.mm_plain.specs.declared.program.Function.{Function}
use Rattle.mm_plain.specs.declared.program.Block.{Block}
use Rattle.mm_plain.specs.declared.program.Call.{Call}
use Rattle.mm_plain.specs.declared.program.End.{End}
use Rattle.mm_plain.specs.declared.program.End.TheVariants as end
use Rattle.mm_plain.specs.Uses.{end_calls, calls_of}
use Rattle.mm_plain.specs.Roots.{is_generic, is_named, AreMarks, item_of, is_root, roots_of}

-- ---- roots

abbrev pub instance : ℕ × Function → Item
instance one = item_of one.0

-- the roots among the first n functions
abbrev pub first_roots : Program → List Function → ℕ → List Item
first_roots p fs n = map instance (filter (is_root p) (take n (enumerate_from 0 fs)))

map_one : (b : Bool) (one : ℕ × Function) → map instance (cond b (one ∷ []) []) ≡ cond b (instance one ∷ []) []
map_one true one = refl
map_one false one = refl

one_more : (p : Program) (fs : List Function) (n : ℕ) (f : Function) → n < length fs → get_or fs n f ≡ f → first_roots p fs (n + 1) ≡ first_roots p fs n ++ cond (is_root p (n, f)) (instance (n, f) ∷ []) []
one_more p fs n f within is =
    let all : List (ℕ × Function) = enumerate_from 0 fs in
    let count : length all ≡ length fs = length-enumerate_from 0 fs in
    let one : get_or all n (n, f) ≡ (n, f) = get_or-enumerate_from 0 fs n (n, f) within ∙ (λ i. (zero-add n i, is i)) in
    let prefix : List (ℕ × Function) = filter (is_root p) (take n all) in
    let more : filter (is_root p) (take (n + 1) all) ≡ prefix ++ cond (is_root p (n, f)) ((n, f) ∷ []) [] = filter_more (is_root p) all n (n, f) (omega (arith, count)) ∙ ap (λ y. prefix ++ cond (is_root p y) (y ∷ []) []) one in
    ap (map instance) more
    ∙ map-append instance prefix (cond (is_root p (n, f)) ((n, f) ∷ []) [])
    ∙ ap (λ last. map instance prefix ++ last) (map_one (is_root p (n, f)) (n, f))

-- one more function is a root, or is none
pub one_taken : (p : Program) (fs : List Function) (n k : ℕ) (f : Function) → n < length fs → get_or fs n f ≡ f → k ≡ n → is_root p (k, f) ≡ true → first_roots p fs (n + 1) ≡ first_roots p fs n ++ instance (k, f) ∷ []
one_taken p fs n k f within is same root =
    one_more p fs n f within is ∙ (λ i. first_roots p fs n ++ cond (is_root p (sym same i, f)) (instance (sym same i, f) ∷ []) []) ∙ ap (λ b. first_roots p fs n ++ cond b (instance (k, f) ∷ []) []) root

pub one_passed : (p : Program) (fs : List Function) (n k : ℕ) (f : Function) → n < length fs → get_or fs n f ≡ f → k ≡ n → is_root p (k, f) ≡ false → first_roots p fs (n + 1) ≡ first_roots p fs n
one_passed p fs n k f within is same root =
    one_more p fs n f within is ∙ (λ i. first_roots p fs n ++ cond (is_root p (sym same i, f)) (instance (sym same i, f) ∷ []) []) ∙ ap (λ b. first_roots p fs n ++ cond b (instance (k, f) ∷ []) []) root ∙ append-nil (first_roots p fs n)

pub all_roots : (p : Program) (n : ℕ) → length p.functions ≤ n → first_roots p p.functions n ≡ roots_of p
all_roots p n past =
    let all : List (ℕ × Function) = enumerate_from 0 p.functions in
    let count : length all ≡ length p.functions = length-enumerate_from 0 p.functions in
    ap (λ ones. map instance (filter (is_root p) ones)) (take_all n all (omega (arith, count)))

-- ---- marks

-- every end but a call has none
pub no_calls : (e : End) → ((call : Call) → e ≡ end.Call call → ⊥) → end_calls e ≡ []
no_calls (end.Call call) other = absurd (other call refl)
no_calls end.Return other = refl
no_calls end.Unreachable other = refl
no_calls (end.Goto label) other = refl
no_calls (end.Switch operand arms label) other = refl

-- the calls of the first n blocks
abbrev pub first_calls : List Block → ℕ → List Call
first_calls blocks n = flat_map (λ block. end_calls block.end) (take n blocks)

-- one block more
pub more_calls : (blocks : List Block) (n : ℕ) (block : Block) → n < length blocks → block ≡ get_or blocks n block → first_calls blocks (n + 1) ≡ first_calls blocks n ++ end_calls block.end
more_calls blocks n block within is =
    ap (flat_map (λ block. end_calls block.end)) (take_more blocks n block within)
    ∙ flat_map-append (λ block. end_calls block.end) (take n blocks) (get_or blocks n block ∷ [])
    ∙ append_one (end_calls (get_or blocks n block).end)
    ∙ ap (λ one. first_calls blocks n ++ end_calls one.end) (sym is)
  where
    append_one : (calls : List Call) → first_calls blocks n ++ (calls ++ []) ≡ first_calls blocks n ++ calls
    append_one calls = ap (λ more. first_calls blocks n ++ more) (append-nil calls)

-- the calls of the generic ones among the first n functions
abbrev pub first_generic : List Function → ℕ → List Call
first_generic fs n = flat_map calls_of (filter is_generic (take n fs))

flat_one : (b : Bool) (f : Function) → flat_map calls_of (cond b (f ∷ []) []) ≡ cond b (calls_of f) []
flat_one true f = append-nil (calls_of f)
flat_one false f = refl

more_generic : (fs : List Function) (n : ℕ) (f : Function) → n < length fs → f ≡ get_or fs n f → first_generic fs (n + 1) ≡ first_generic fs n ++ cond (is_generic f) (calls_of f) []
more_generic fs n f within is =
    let prefix : List Function = filter is_generic (take n fs) in
    let more : filter is_generic (take (n + 1) fs) ≡ prefix ++ cond (is_generic f) (f ∷ []) [] = filter_more is_generic fs n f within ∙ ap (λ y. prefix ++ cond (is_generic y) (y ∷ []) []) (sym is) in
    ap (flat_map calls_of) more
    ∙ flat_map-append calls_of prefix (cond (is_generic f) (f ∷ []) [])
    ∙ ap (λ last. flat_map calls_of prefix ++ last) (flat_one (is_generic f) f)

pub generic_taken : (fs : List Function) (n : ℕ) (f : Function) → n < length fs → f ≡ get_or fs n f → is_generic f ≡ true → first_generic fs (n + 1) ≡ first_generic fs n ++ calls_of f
generic_taken fs n f within is generic = more_generic fs n f within is ∙ ap (λ b. first_generic fs n ++ cond b (calls_of f) []) generic

pub generic_passed : (fs : List Function) (n : ℕ) (f : Function) → n < length fs → f ≡ get_or fs n f → is_generic f ≡ false → first_generic fs (n + 1) ≡ first_generic fs n
generic_passed fs n f within is generic = more_generic fs n f within is ∙ ap (λ b. first_generic fs n ++ cond b (calls_of f) []) generic ∙ append-nil (first_generic fs n)

or_false : (b : Bool) → (b || false) ≡ b
or_false true = refl
or_false false = refl

or_true : (b : Bool) → (b || true) ≡ true
or_true true = refl
or_true false = refl

-- one call more marks its callee
pub marked_one : (calls : List Call) (call : Call) (marks : List Bool) → call.callee.0 < length marks → AreMarks calls marks → AreMarks (calls ++ call ∷ []) (set marks call.callee.0 true)
marked_one calls call marks within are id in' =
    let inside : id < length marks = subst (λ n. id < n) (length-set marks call.callee.0 true) in' in
    by (nat_eq call.callee.0 id) refl inside ∙ sym (list_any-append (λ c. nat_eq c.callee.0 id) calls (call ∷ []))
  where
    by : (b : Bool) → nat_eq call.callee.0 id ≡ b → id < length marks → get_or (set marks call.callee.0 true) id false ≡ (is_named calls id || (nat_eq call.callee.0 id || false))
    by true is inside = get_or-set_at marks call.callee.0 id true false (sym (eqb-true call.callee.0 id is)) within ∙ sym (or_true (is_named calls id)) ∙ ap (λ c. is_named calls id || (c || false)) (sym is)
    by false is inside = get_or-set_other marks call.callee.0 id true false (λ e. eqb-false call.callee.0 id is (sym e)) ∙ are id inside ∙ sym (or_false (is_named calls id)) ∙ ap (λ c. is_named calls id || (c || false)) (sym is)

-- a callee past the functions has no mark
pub marked_none : (calls : List Call) (call : Call) (marks : List Bool) → length marks ≤ call.callee.0 → AreMarks calls marks → AreMarks (calls ++ call ∷ []) marks
marked_none calls call marks past are id inside =
    are id inside ∙ by (nat_eq call.callee.0 id) refl ∙ sym (list_any-append (λ c. nat_eq c.callee.0 id) calls (call ∷ []))
  where
    by : (b : Bool) → nat_eq call.callee.0 id ≡ b → is_named calls id ≡ (is_named calls id || (nat_eq call.callee.0 id || false))
    by true is = absurd (let same = eqb-true call.callee.0 id is in omega (arith, past, inside))
    by false is = sym (or_false (is_named calls id)) ∙ ap (λ c. is_named calls id || (c || false)) (sym is)

-- the marks keep their number, and have those of the first n blocks beside the old ones
abbrev pub Kept : List Bool → List Block → ℕ → List Bool → Type 0
Kept old blocks n marks = (length marks ≡ length old) × ((calls : List Call) → AreMarks calls old → AreMarks (calls ++ first_calls blocks n) marks)

module _ (old marks new : List Bool) (blocks : List Block) (n : ℕ) (block : Block) (within : n < length blocks) (is : block ≡ get_or blocks n block) (kept : Kept old blocks n marks) where
  calls_grow : (ends : List Call) → end_calls block.end ≡ ends → (calls : List Call) → (calls ++ first_calls blocks n) ++ ends ≡ calls ++ first_calls blocks (n + 1)
  calls_grow ends are calls =
      append_assoc calls (first_calls blocks n) ends
      ∙ ap (λ more. calls ++ (first_calls blocks n ++ more)) (sym are)
      ∙ ap (λ more. calls ++ more) (sym (more_calls blocks n block within is))

  -- a block without a call
  pub kept_none : end_calls block.end ≡ [] → new ≡ marks → Kept old blocks (n + 1) new
  kept_none none same = (
    ap length same ∙ kept.0,
    λ calls are.
        subst (λ all. AreMarks all new) (sym (append-nil (calls ++ first_calls blocks n)) ∙ calls_grow [] none calls)
        (subst (λ ms. AreMarks (calls ++ first_calls blocks n) ms) (sym same) (kept.1 calls are)),
  )

  module _ (call : Call) (ends : end_calls block.end ≡ call ∷ []) where
    -- a call whose callee is marked
    pub kept_one : call.callee.0 < length marks → new ≡ set marks call.callee.0 true → Kept old blocks (n + 1) new
    kept_one inside now = (
      ap length now ∙ length-set marks call.callee.0 true ∙ kept.0,
      λ calls are.
          subst (λ all. AreMarks all new) (calls_grow (call ∷ []) ends calls)
          (subst (λ ms. AreMarks ((calls ++ first_calls blocks n) ++ call ∷ []) ms) (sym now) (marked_one (calls ++ first_calls blocks n) call marks inside (kept.1 calls are))),
    )

    -- a call whose callee is no function
    pub kept_past : length marks ≤ call.callee.0 → new ≡ marks → Kept old blocks (n + 1) new
    kept_past past same = (
      ap length same ∙ kept.0,
      λ calls are.
          subst (λ all. AreMarks all new) (calls_grow (call ∷ []) ends calls)
          (subst (λ ms. AreMarks ((calls ++ first_calls blocks n) ++ call ∷ []) ms) (sym same) (marked_none (calls ++ first_calls blocks n) call marks past (kept.1 calls are))),
    )

-- past the last block all callees are marked
pub kept_all : (old marks : List Bool) (f : Function) (blocks : List Block) (n : ℕ) → blocks ≡ f.blocks → length blocks ≤ n → Kept old blocks n marks → (calls : List Call) → AreMarks calls old → AreMarks (calls ++ calls_of f) marks
kept_all old marks f blocks n same past kept calls are =
    subst (λ all. AreMarks (calls ++ flat_map (λ block. end_calls block.end) all) marks) (take_all n blocks past ∙ same) (kept.1 calls are)
