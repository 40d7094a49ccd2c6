-- No two functions of a tree that keeps the rules have one path.
use Rattle.std.proofs.Common.{◌≡◌, ◌≢◌, ℕ, zero, suc, List, [], ◌∷◌, ◌++◌, map, get_or, Bool, true, false, Some, refl, sym, ◌∙◌, ap, subst, append_assoc, codes, arith}
use Rattle.std.specs.Prelude.{All, ⊤, slice_get}
use Rattle.std.specs.List.{flat_map, list_any}
use Rattle.std.specs.Str.{bytes_eq}
use Rattle.std.proofs.lemmas.Bool.{both_ways, or_parts}
use Rattle.std.proofs.lemmas.List.{append_cancel_left}
use Rattle.std.proofs.lemmas.List.Elements.{All-nil, All-cons, All-head, All-tail, All-append, All-weaker}
use Rattle.std.proofs.lemmas.Option.{slice_get_within}
use Rattle.mm_names.specs.Names.{IsName}
use Rattle.mm_ast.specs.declared.items.Crate.{Crate}
use Rattle.mm_ast.specs.declared.items.Item.{Item}
use Rattle.mm_ast.specs.declared.names.Name.{Name}
use Rattle.mm_load_plain.specs.Rules.{along, again, line_if, Member, member_of, double_among, double_in_items}
use Rattle.mm_load_plain.specs.WrittenItem.{Defined, path_in, functions_in, functions_of, name_of}
use Rattle.mm_definitions.specs.Trees.{items_in}
use Rattle.mm_load_plain.proofs.ColonLemmas.{one_name}
use Rattle.mm_load_plain.proofs.FormLemmas.{path_of, defined, module_functions, function_alone, module_inside, named_module, named_function}
use Rattle.mm_load_plain.proofs.WrittenItems.{IsFine, of_crate}
use Rattle.mm_terms.specs.Lists.{All-apart}
use Rattle.mm_terms.proofs.ListLemmas.{All-flat_map, All-slice_get, bytes_same}
use Rattle.mm_load_plain.proofs.ItemLemmas.{member_of-name}
use Rattle.mm_load_plain.proofs.KeptLemmas.{none_both, none_if}
use Rattle.mm_load_plain.proofs.MemberLemmas.{doubled}

-- ---- lists of functions, each with a path of its own

abbrev IsOther : Defined → Defined → Type 0
IsOther d e = d.path ≢ e.path

abbrev pub AreApart : List Defined → Type 0
AreApart [] = ⊤
AreApart (d ∷ ds) = All (IsOther d) ds × AreApart ds

apart_both : (ds es : List Defined) → AreApart ds → AreApart es → All (λ d. All (IsOther d) es) ds → AreApart (ds ++ es)
apart_both [] es apart rest across = rest
apart_both (d ∷ ds) es apart rest across = (
  All-append (IsOther d) ds es apart.0 (All-head (λ d. All (IsOther d) es) d ds across),
  apart_both ds es apart.1 rest (All-tail (λ d. All (IsOther d) es) d ds across),
)

-- a path stands at one index
pub one_index : (ds : List Defined) → AreApart ds → (i j : ℕ) (d e : Defined) → slice_get ds i ≡ Some d → slice_get ds j ≡ Some e → d.path ≡ e.path → i ≡ j
one_index [] apart i j d e at there same = absurd (let none = slice_get_within {A = Defined} [] i d at in omega (arith, none))
one_index (c ∷ ds) apart zero zero d e at there same = refl
one_index (c ∷ ds) apart zero (suc j) d e at there same =
    let first : c ≡ d = cc in
    absurd (All-slice_get (IsOther c) ds j e apart.0 there (ap (λ f. f.path) first ∙ same))
one_index (c ∷ ds) apart (suc i) zero d e at there same =
    let first : c ≡ e = cc in
    absurd (All-slice_get (IsOther c) ds i d apart.0 at (ap (λ f. f.path) first ∙ sym same))
one_index (c ∷ ds) apart (suc i) (suc j) d e at there same = ap suc (one_index ds apart.1 i j d e at there same)

-- ---- the names of a module

abbrev HasOther : Member → Member → Type 0
HasOther m other = m.name.text ≢ other.name.text

abbrev AreOthers : List Member → Type 0
AreOthers [] = ⊤
AreOthers (m ∷ ms) = All (HasOther m) ms × AreOthers ms

none_any : {A : Type 0} (test : A → Bool) (xs : List A) → list_any test xs ≡ false → All (λ x. test x ≡ false) xs
none_any test [] h = All-nil (λ x. test x ≡ false)
none_any test (x ∷ xs) h =
    let parts = or_parts (test x) (list_any test xs) h in
    All-cons (λ x. test x ≡ false) x xs parts.0 (none_any test xs parts.1)

-- a name that none of those before has
not_again : (before : List Member) (m : Member) → again (map (λ other. other.name.text) before) m.name.text m.name.line ≡ [] → All (λ other. HasOther other m) before
not_again [] m none = All-nil (λ other. HasOther other m)
not_again (b ∷ before) m none =
    let tests = or_parts (bytes_eq m.name.text b.name.text) (list_any (bytes_eq m.name.text) (map (λ other. other.name.text) before)) (none_if (list_any (bytes_eq m.name.text) (map (λ other. other.name.text) (b ∷ before))) m.name.line none) in
    All-cons (λ other. HasOther other m) b before
    (λ same. both_ways (bytes_eq m.name.text b.name.text) tests.0 (subst (λ text. bytes_eq m.name.text text ≡ true) (sym same) (bytes_same m.name.text)))
    (not_again before m (ap (λ test. line_if test m.name.line) tests.1))

-- those behind have other names than those before
later_other : (before ms : List Member) → along doubled before ms ≡ [] → All (λ b. All (HasOther b) ms) before
later_other before [] none = λ k d within. All-nil (HasOther (get_or before k d))
later_other before (m ∷ ms) none =
    let parts = none_both (doubled before m) (along doubled (before ++ m ∷ []) ms) none in
    let first = none_both (again (map (λ other. other.name.text) before) m.name.text m.name.line) m.inside parts.0 in
    let others = (All-apart (λ b. All (HasOther b) ms) before (m ∷ []) (later_other (before ++ m ∷ []) ms parts.1)).0 in
    λ k d within. All-cons (HasOther (get_or before k d)) m ms (not_again before m first.0 k d within) (others k d within)

all_other : (before ms : List Member) → along doubled before ms ≡ [] → AreOthers ms × All (λ m. m.inside ≡ []) ms
all_other before [] none = (tt, All-nil (λ m. m.inside ≡ []))
all_other before (m ∷ ms) none =
    let parts = none_both (doubled before m) (along doubled (before ++ m ∷ []) ms) none in
    let first = none_both (again (map (λ other. other.name.text) before) m.name.text m.name.line) m.inside parts.0 in
    let here = (All-apart (λ b. All (HasOther b) ms) before (m ∷ []) (later_other (before ++ m ∷ []) ms parts.1)).1 in
    let rest = all_other (before ++ m ∷ []) ms parts.1 in
    ((All-head (λ b. All (HasOther b) ms) m [] here, rest.0), All-cons (λ m. m.inside ≡ []) m ms first.1 rest.1)

-- ---- paths below one prefix

-- a prefix of the path ends where a name ends
abbrev IsBelow : List ℕ → List ℕ → Type 0
IsBelow prefix path = (rest : List ℕ) × (path ++ 58 ∷ [] ≡ prefix ++ 58 ∷ rest)

below_itself : (prefix : List ℕ) → IsBelow prefix prefix
below_itself prefix = ([], refl)

below_below : (prefix name path : List ℕ) → IsBelow (path_in prefix name) path → IsBelow prefix path
below_below prefix name path below = (
  58 ∷ name ++ 58 ∷ below.0,
  below.1 ∙ append_assoc (prefix ++ codes "::") name (58 ∷ below.0) ∙ append_assoc prefix (codes "::") (name ++ 58 ∷ below.0),
)

-- below two names of one module are two paths
other_below : (prefix n m path other : List ℕ) → IsName n → IsName m → n ≢ m → IsBelow (path_in prefix n) path → IsBelow (path_in prefix m) other → path ≢ other
other_below prefix n m path other is named differ below there same =
    differ (one_name n m below.0 there.0 is named
    (append_cancel_left (prefix ++ codes "::") (n ++ 58 ∷ below.0) (m ++ 58 ∷ there.0)
    (sym (append_assoc (prefix ++ codes "::") n (58 ∷ below.0)) ∙ sym below.1 ∙ ap (λ p. p ++ 58 ∷ []) same ∙ there.1 ∙ append_assoc (prefix ++ codes "::") m (58 ∷ there.0))))

-- ---- items, module by module

abbrev AreBelow : List ℕ → List Defined → Type 0
AreBelow prefix = All (λ d. IsBelow prefix d.path)

-- what is so of some functions, where nothing is reported of what is inside
abbrev Facts : List ℕ → Name → List ℕ → List Defined → Type 0
Facts prefix n inside functions = IsName n.text × AreBelow (path_in prefix n.text) functions × (inside ≡ [] → AreApart functions)

abbrev ItemFacts : Item → Type 0
ItemFacts item = (prefix : List ℕ) → Facts prefix (name_of item) (member_of item).inside (functions_in item prefix)

module _ (prefix : List ℕ) where
  across : (n : Name) (d : Defined) (items : List Item) → IsName n.text → IsBelow (path_in prefix n.text) d.path → All ItemFacts items → All (λ item. n.text ≢ (name_of item).text) items → All (IsOther d) (flat_map (λ item. functions_in item prefix) items)
  across n d items is below facts differ =
      All-flat_map (IsOther d) (λ item. functions_in item prefix) items
      (λ k one within.
      let item : Item = get_or items k one in
      let so = facts k one within prefix in
      All-weaker (λ e. IsBelow (path_in prefix (name_of item).text) e.path) (IsOther d)
      (λ e there. other_below prefix n.text (name_of item).text d.path e.path is so.0 (differ k one within) below there)
      (functions_in item prefix) so.1)

  named_apart : (n : Name) (items : List Item) → All (λ m. n.text ≢ m.name.text) (map member_of items) → All (λ item. n.text ≢ (name_of item).text) items
  named_apart n [] all = All-nil (λ item. n.text ≢ (name_of item).text)
  named_apart n (item ∷ items) all =
      All-cons (λ item. n.text ≢ (name_of item).text) item items
      (subst (λ (name : Name). n.text ≢ name.text) (member_of-name item) (All-head (λ m. n.text ≢ m.name.text) (member_of item) (map member_of items) all))
      (named_apart n items (All-tail (λ m. n.text ≢ m.name.text) (member_of item) (map member_of items) all))

  items_apart : (items : List Item) → All ItemFacts items → AreOthers (map member_of items) → All (λ m. m.inside ≡ []) (map member_of items) → AreApart (flat_map (λ item. functions_in item prefix) items)
  items_apart [] facts others none = tt
  items_apart (item ∷ items) facts others none =
      let so = All-head ItemFacts item items facts prefix in
      let rest = All-tail ItemFacts item items facts in
      let differ = named_apart (name_of item) items (subst (λ (name : Name). All (λ m. name.text ≢ m.name.text) (map member_of items)) (member_of-name item) others.0) in
      apart_both (functions_in item prefix) (flat_map (λ item. functions_in item prefix) items)
      (so.2 (All-head (λ m. m.inside ≡ []) (member_of item) (map member_of items) none))
      (items_apart items rest others.1 (All-tail (λ m. m.inside ≡ []) (member_of item) (map member_of items) none))
      (All-weaker (λ d. IsBelow (path_in prefix (name_of item).text) d.path) (λ d. All (IsOther d) (flat_map (λ item. functions_in item prefix) items))
      (λ d below. across (name_of item) d items so.0 below rest differ) (functions_in item prefix) so.1)

  module_apart : (items : List Item) → All ItemFacts items → double_among (map member_of items) ≡ [] → AreApart (flat_map (λ item. functions_in item prefix) items)
  unfolding double_among
  module_apart items facts none =
      let all = all_other [] (map member_of items) none in
      items_apart items facts all.0 all.1

  module_below : (items : List Item) → All ItemFacts items → AreBelow prefix (flat_map (λ item. functions_in item prefix) items)
  module_below items facts =
      All-flat_map (λ d. IsBelow prefix d.path) (λ item. functions_in item prefix) items
      (λ k one within.
      let item : Item = get_or items k one in
      All-weaker (λ d. IsBelow (path_in prefix (name_of item).text) d.path) (λ d. IsBelow prefix d.path)
      (λ d below. below_below prefix (name_of item).text d.path below)
      (functions_in item prefix) (facts k one within prefix).1)

-- in a crate that is written and built, and that has no name twice in a module
pub apart : (krate : Crate) → IsFine krate → double_in_items krate.items ≡ [] → AreApart (functions_of krate)
unfolding functions_of
apart krate fine none =
    let facts = of_crate ItemFacts
    (λ item name is named each prefix.
    let functions = module_functions item prefix name is in (
      named_module item name is named,
      subst (AreBelow (path_of item prefix)) (sym functions) (module_below (path_of item prefix) (items_in item) each),
      λ none. subst AreApart (sym functions) (module_apart (path_of item prefix) (items_in item) each (sym (module_inside item name is) ∙ none)),
    ))
    (λ item is_pub f is no_items built function prefix.
    let alone = function_alone item prefix is_pub f is no_items in (
      named_function item is_pub f is function.named,
      subst (AreBelow (path_of item prefix)) (sym alone)
          (All-cons (λ d. IsBelow (path_of item prefix) d.path) (defined item prefix is_pub f) [] (below_itself (path_of item prefix)) (All-nil (λ d. IsBelow (path_of item prefix) d.path))),
      λ none. subst AreApart (sym alone) (All-nil (IsOther (defined item prefix is_pub f)), tt),
    ))
    krate fine in
    module_apart krate.name.text krate.items facts none
