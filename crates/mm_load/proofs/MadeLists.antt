-- What is mentioned by a part of an item breaks no rule, and how many members lists have that are written.
use Rattle.std.proofs.Common.{◌≡◌, ◌≤◌, ℕ, suc, List, [], ◌∷◌, ◌++◌, length, Bool, true, Option, None, Some, refl, arith}
use Rattle.std.proofs.lemmas.Bool.{ltb-true}
use Rattle.std.proofs.lemmas.List.{length-map}
use Rattle.std.proofs.lemmas.List.Elements.{All-contains, Contains-append_left, Contains-append_right}
use Rattle.std.proofs.lemmas.List.Sums.{AllPass-from_list_all}
use Rattle.std.specs.List.{All, cons_option, filter_map, list_all}
use Rattle.mm_ast.specs.declared.items.Bound.{Bound}
use Rattle.mm_ast.specs.declared.types.Type as types
use Rattle.mm_lower.specs.Items as lowered
use Rattle.mm_lower.specs.Items.{Site, ids_behind}
use Rattle.mm_lower.specs.Params.{Params}
use Rattle.mm_lower.specs.Paths.{Paths}
use Rattle.mm_lower.specs.Types.{type_of, types_of}
use Rattle.mm_mentions.specs.declared.mention.Mention.{Mention}
use Rattle.mm_program.specs.Valid.{IsShort}
use Rattle.mm_resolve.specs.Scopes.{Scope}
use Rattle.mm_rules.specs.MentionRules.{broken}
use Rattle.mm_terms.proofs.ListLemmas.{All-from_contains, and_left, and_right}
use Rattle.mm_written.specs.Items.{written_bound, written_bounds}
use Rattle.mm_written.specs.Lists.{few, few_each}
use Rattle.mm_written.specs.Types.{written_type, written_types}
use Rattle.mm_load.specs.Leads.{Kept}

-- ---- mentions

module _ (scope : Scope) (xs ys : List Mention) (kept : Kept scope (xs ++ ys)) where
  pub kept_left : Kept scope xs
  kept_left =
      All-from_contains (λ m. broken scope m.what ≡ []) xs (λ m has. All-contains (λ m. broken scope m.what ≡ []) (xs ++ ys) m kept (Contains-append_left xs ys m has))

  pub kept_right : Kept scope ys
  kept_right =
      All-from_contains (λ m. broken scope m.what ≡ []) ys (λ m has. All-contains (λ m. broken scope m.what ≡ []) (xs ++ ys) m kept (Contains-append_right xs ys m has))

-- ---- lists that are written

pub few_is : {A : Type 0} (xs : List A) → few xs ≡ true → IsShort xs
unfolding few
few_is xs is = ltb-true (length xs) 4294967296 is

module _ {A : Type 0} (test : A → Bool) (xs : List A) (is : few_each test xs ≡ true) where
  pub each_few : IsShort xs
  each_few = few_is xs (and_left (few xs) (list_all test xs) is)

  pub each_passes : All (λ x. test x ≡ true) xs
  each_passes = AllPass-from_list_all test xs (and_right (few xs) (list_all test xs) is)

pub types_short : (paths : Paths) (params : Params) (ts : List types.«Type») → written_types ts ≡ true → IsShort (types_of paths params ts)
unfolding written_types
types_short paths params ts is = omega (arith, each_few written_type ts is, length-map ts (type_of paths params))

filtered : {X Y : Type 0} (h : X → Option Y) (xs : List X) → length (filter_map h xs) ≤ length xs
filtered h [] = omega arith
filtered {X} {Y} h (x ∷ xs) = at (h x) (filter_map h xs) (filtered h xs)
  where
    at : (o : Option Y) (ys : List Y) → length ys ≤ length xs → length (cons_option o ys) ≤ length (x ∷ xs)
    at None ys fewer = omega arith
    at (Some y) ys fewer = omega arith

pub bounds_short : (paths : Paths) (site : Site) (params : Params) (bounds : List Bound) → written_bounds bounds ≡ true → IsShort (lowered.bounds_of paths site params bounds)
unfolding written_bounds
bounds_short paths site params bounds is = omega (arith, each_few written_bound bounds is, filtered (λ b. lowered.bound_by paths site params b.ty b.form) bounds)

-- ---- the methods of an item

length-ids_behind : {A : Type 0} (n : ℕ) (xs : List A) → length (ids_behind n xs) ≡ length xs
length-ids_behind n [] = refl
length-ids_behind n (x ∷ xs) = omega (arith, length-ids_behind (suc n) xs)

pub ids_short : {A : Type 0} (n : ℕ) (xs : List A) → IsShort xs → IsShort (ids_behind n xs)
ids_short n xs is = omega (arith, length-ids_behind n xs)
