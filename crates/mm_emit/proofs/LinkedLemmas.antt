-- The objects of complete items are linked, and their image does what the program does.
use Rattle.std.proofs.Common.{◌≡◌, ℕ, ◌<◌, ◌⊎◌, inl, inr, Bool, false, cond, List, [], ◌∷◌, ◌++◌, map, get_or, flat_map, Some, None, refl, sym, ◌∙◌, ap, subst, arith}
use Rattle.std.specs.declared.option.Option.{Option}
use Rattle.std.specs.declared.cmp.Ordering.TheVariants.{Less}
use Rattle.std.specs.Prelude.{Contains, slice_get, is_none}
use Rattle.std.specs.List.{IsDistinct, AllByRecursion, enumerate_from, find}
use Rattle.std.specs.List.Sorted.{IsPermutation}
use Rattle.std.specs.Ordering.{nat_cmp, ordering_then}
use Rattle.std.specs.Option.{option_map}
use Rattle.std.specs.Str.{bytes_eq}
use Rattle.std.proofs.lemmas.Bool.{cases_Bool, false≢true}
use Rattle.std.proofs.lemmas.List.{get_or-map, length-map}
use Rattle.std.proofs.lemmas.List.Elements.{Contains-append_cases}
use Rattle.std.proofs.lemmas.Option.{slice_get_within, get_or_from_slice_get}
use Rattle.std.proofs.lemmas.List.Sorted.{IsPermutation-map}
use Rattle.std.proofs.lemmas.Cmp.{ranked}
use Rattle.std.proofs.lemmas.Map.Keys.{IsDistinct-IsPermutation, apart_from_distinct}
use Rattle.std.proofs.lemmas.Simd.{map-map}
use Rattle.std.proofs.lemmas.Slice.Eq.{bytes_eq-Decides}
use Rattle.mm_terms.specs.declared.tree.Tree.{Tree}
use Rattle.mm_terms.specs.declared.item.Item.{Item}
use Rattle.mm_terms.specs.declared.item.Item.TheVariants.{Fn, Glue, Shim, Static}
use Rattle.mm_terms.specs.Same.{same_item, items_equal}
use Rattle.mm_plain.specs.declared.program.Program.{Program}
use Rattle.mm_plain.specs.declared.program.Function.{Function}
use Rattle.mm_plain.specs.declared.program.Block.{Block}
use Rattle.mm_plain.specs.declared.program.End.{End}
use Rattle.mm_plain.specs.declared.program.End.TheVariants as end
use Rattle.mm_plain.specs.Roots.{main_item}
use Rattle.mm_plain.specs.Uses.{end_calls, calls_of, called, body_candidates, candidates_of}
use Rattle.mm_objects.specs.declared.objects.ObjUnit.{ObjUnit}
use Rattle.mm_objects.specs.declared.objects.Linkage.{Linkage}
use Rattle.mm_objects.specs.declared.objects.Linkage.TheVariants.{External}
use Rattle.mm_objects.specs.Resolution.{Placed, placed, resolve, is_external, is_shared, defines, link_of, symbol_of, def_in, target_of, shared_in}
use Rattle.mm_objects.specs.Emitted.{HaveOwnSymbols, IsUnitOf, block_of, code_of, def_of, end_of, item_symbol, whole_crate}
use Rattle.mm_machines.specs.Agreement.{StandsAt}
use Rattle.mm_objects.specs.declared.target.Target.{Target}
use Rattle.mm_objects.proofs.Standing.{stands}
use Rattle.mm_objects.specs.declared.target.Clash.{Clash}
use Rattle.mm_objects.specs.Linking.{IsClash, HasNoClash, def_symbols, end_symbols, first_undefined, is_undefined, references, target_cmp, unit_references}
use Rattle.mm_emit.specs.Complete.{IsComplete}
use Rattle.mm_emit.proofs.References.{at, def_from, def_symbol, made, names, resolved, shared, there_is}
use Rattle.mm_emit.proofs.OwnSymbols.{own_symbols}
use Rattle.mm_terms.proofs.ListLemmas.{and_right, find-Some, find-None, Contains-from_map, Contains-later, Contains-cons_cases, Contains-from_flat_map}

-- ---- symbols of a unit differ

module _ (p : Program) where
  abbrev symbol : Item → List ℕ
  symbol = item_symbol p

  kept : (x y : Item) (ys : List Item) (z : Item) → Contains (x ∷ ys) z → Contains (x ∷ y ∷ ys) z
  kept x y ys z here = elim (Contains-cons_cases x ys z here) [
    | inl is ↦ (0, omega arith, is)
    | inr other ↦ Contains-later x (y ∷ ys) z (Contains-later y ys z other)
  ]

  fewer : (x y : Item) (ys : List Item) → HaveOwnSymbols p (x ∷ y ∷ ys) → HaveOwnSymbols p (x ∷ ys)
  fewer x y ys own a b inside there = own a b (kept x y ys a inside) (kept x y ys b there)

  symbols_differ : (x y : Item) → (symbol x ≡ symbol y → x ≡ y) → same_item x y ≡ false → bytes_eq (symbol x) (symbol y) ≡ false
  symbols_differ x y own differ = elim (cases_Bool (bytes_eq (symbol x) (symbol y))) [
    | inl same ↦ absurd (false≢true (sym differ ∙ (items_equal x y).1 (own ((bytes_eq-Decides (symbol x) (symbol y)).0 same))))
    | inr other ↦ other
  ]

  first_differs : (x : Item) (ys : List Item) → HaveOwnSymbols p (x ∷ ys) → AllByRecursion (λ y. same_item x y ≡ false) ys → AllByRecursion (λ s. bytes_eq (symbol x) s ≡ false) (map symbol ys)
  first_differs x [] own differ = tt
  first_differs x (y ∷ ys) own differ =
      (symbols_differ x y (own x y (0, omega arith, refl) (1, omega arith, refl)) differ.0, first_differs x ys (fewer x y ys own) differ.1)

  symbols_distinct : (xs : List Item) → HaveOwnSymbols p xs → IsDistinct same_item xs → IsDistinct bytes_eq (map symbol xs)
  unfolding IsDistinct
  symbols_distinct [] own distinct = tt
  symbols_distinct (x ∷ xs) own distinct =
      (first_differs x xs own distinct.0, symbols_distinct xs (λ a b inside there. own a b (Contains-later x xs a inside) (Contains-later x xs b there)) distinct.1)

-- ---- what definitions refer to

module _ (p : Program) where
  end_refers : (args : List Tree) (e : End) → end_symbols (end_of p args e) ≡ map (λ call. item_symbol p (called args call)) (end_calls e)
  end_refers args end.Return = refl
  end_refers args end.Unreachable = refl
  end_refers args (end.Goto label) = refl
  end_refers args (end.Switch o arms other) = refl
  end_refers args (end.Call call) = refl

  map_append : {X Y : Type 0} (f : X → Y) (xs ys : List X) → map f xs ++ map f ys ≡ map f (xs ++ ys)
  map_append f [] ys = refl
  map_append f (x ∷ xs) ys = ap (λ l. f x ∷ l) (map_append f xs ys)

  blocks_refer : (args : List Tree) (bs : List Block) → flat_map (λ b. end_symbols b.end) (map (block_of p args) bs) ≡ map (λ call. item_symbol p (called args call)) (flat_map (λ b. end_calls b.end) bs)
  blocks_refer args [] = refl
  blocks_refer args (b ∷ bs) =
      ap (λ l. l ++ flat_map (λ c. end_symbols c.end) (map (block_of p args) bs)) (end_refers args b.end)
      ∙ ap (λ l. map (λ call. item_symbol p (called args call)) (end_calls b.end) ++ l) (blocks_refer args bs)
      ∙ map_append (λ call. item_symbol p (called args call)) (end_calls b.end) (flat_map (λ c. end_calls c.end) bs)

  code_refers : (s : List ℕ) (link : Linkage) (args : List Tree) (o : Option Function) → def_symbols (code_of p s link args o) ≡ map (item_symbol p) (body_candidates args o)
  code_refers s link args None = refl
  code_refers s link args (Some f) = blocks_refer args f.blocks ∙ sym (map-map (item_symbol p) (called args) (calls_of f))

  -- a definition of an item refers to the symbols of what the item uses
  def_refers : (link : Linkage) (x : Item) → def_symbols (def_of p link x) ≡ map (item_symbol p) (candidates_of p x)
  def_refers link (Fn d args) = code_refers (item_symbol p (Fn d args)) link args (slice_get p.functions d.0)
  def_refers link (Glue t) = refl
  def_refers link (Shim t) = refl
  def_refers link (Static d) = refl

-- ---- the one unit

-- the symbol of the item that a run begins with resolves to a definition of it
pub record HasMainAt (p : Program) (items : List Item) (units : List ObjUnit) : Type 0 where
  pub target : Target
  pub found : shared_in units (item_symbol p (main_item p)) ≡ Some target
  pub stands : StandsAt p items units (main_item p) target

-- definitions of items have the symbols of the items
def_symbols_are : (p : Program) (xs : List Item) → map (λ x. symbol_of (def_of p External x)) xs ≡ map (item_symbol p) xs
def_symbols_are p [] = refl
def_symbols_are p (x ∷ xs) = (λ i. def_symbol p External x i ∷ def_symbols_are p xs i)

flips : (a b : List ℕ) → bytes_eq a b ≡ bytes_eq b a
flips a b = elim (cases_Bool (bytes_eq a b)) [
  | inl same ↦ same ∙ sym ((bytes_eq-Decides b a).1 (sym ((bytes_eq-Decides a b).0 same)))
  | inr other ↦ elim (cases_Bool (bytes_eq b a)) [
    | inl same ↦ absurd (false≢true (sym other ∙ (bytes_eq-Decides a b).1 (sym ((bytes_eq-Decides b a).0 same))))
    | inr too ↦ other ∙ sym too
  ]
]

-- where none passes, none is found
none_passes : {X : Type 0} (test : X → Bool) (xs : List X) → ((x : X) → Contains xs x → test x ≡ false) → find test xs ≡ None
none_passes test [] each = refl
none_passes test (x ∷ xs) each =
    ap (λ b. cond b (Some x) (find test xs)) (each x (0, omega arith, refl)) ∙ none_passes test xs (λ y here. each y (Contains-later x xs y here))

module _ (p : Program) (items : List Item) (is : IsComplete p items) (u : ObjUnit) (of : IsUnitOf p (whole_crate p items) u) where
  own : HaveOwnSymbols p items
  own = own_symbols p items is

  -- ---- definitions do not clash

  placed_at_zero : (one : Placed) → Contains (map (at p items u of own) (enumerate_from 0 u.defs)) one ⊎ Contains [] one → one.unit ≡ 0
  placed_at_zero one (inl here) =
      let e = Contains-from_map (at p items u of own) (enumerate_from 0 u.defs) one here in
      ap (λ o. o.unit) e.2
  placed_at_zero one (inr none) = absurd (omega (arith, none.1))

  unit_zero : (one : Placed) → Contains (placed (u ∷ [])) one → one.unit ≡ 0
  unit_zero one here = placed_at_zero one (Contains-append_cases (map (at p items u of own) (enumerate_from 0 u.defs)) [] one here)

  stands_there : (one : Placed) → Contains (placed (u ∷ [])) one → slice_get u.defs one.number ≡ Some one.def
  stands_there one here = ap (λ n. def_in one.number (slice_get (u ∷ []) n)) (sym (unit_zero one here)) ∙ stands (u ∷ []) one here

  item_symbols : IsPermutation (map (item_symbol p) items) (map symbol_of u.defs)
  item_symbols =
      subst (λ (symbols : List (List ℕ)). IsPermutation symbols (map symbol_of u.defs))
      (map-map symbol_of (made p items u of own) (map (shared p items u of own) items)
      ∙ map-map (λ one. symbol_of (made p items u of own one)) (shared p items u of own) items
      ∙ def_symbols_are p items)
      (IsPermutation-map symbol_of (map (made p items u of own) (map (shared p items u of own) items)) u.defs of.of_items)

  distinct : IsDistinct bytes_eq (map symbol_of u.defs)
  distinct = IsDistinct-IsPermutation bytes_eq flips (map (item_symbol p) items) (map symbol_of u.defs) item_symbols (symbols_distinct p items own is.once)

  symbol_at : (one : Placed) → Contains (placed (u ∷ [])) one → get_or (map symbol_of u.defs) one.number [] ≡ symbol_of one.def
  symbol_at one here =
      let at_place = stands_there one here in
      get_or-map symbol_of u.defs one.number one.def [] (slice_get_within u.defs one.number one.def at_place)
      ∙ ap symbol_of (get_or_from_slice_get u.defs one.number one.def one.def at_place)

  in_order : (x : Clash) (c : IsClash (u ∷ []) x) → c.first.number < c.second.number
  in_order x c =
      let units : nat_cmp c.first.unit c.second.unit ≡ nat_cmp 0 0 = λ i. nat_cmp (unit_zero c.first c.first_in i) (unit_zero c.second c.second_in i) in
      let numbers : nat_cmp c.first.number c.second.number ≡ Less =
      ap (λ o. ordering_then o (nat_cmp c.first.number c.second.number)) (sym units)
      ∙ (λ i. target_cmp (sym c.first_at i) (sym c.second_at i)) ∙ c.before in
      ranked c.first.number c.second.number Less (sym numbers)

  pub no_clash : HasNoClash (u ∷ [])
  no_clash x c =
      let within = slice_get_within u.defs c.second.number c.second.def (stands_there c.second c.second_in) in
      let long = length-map u.defs symbol_of in
      let differ = apart_from_distinct bytes_eq (map symbol_of u.defs) c.first.number c.second.number [] distinct (in_order x c) (omega (arith, within, long)) in
      let one : symbol_of c.first.def ≡ symbol_of c.second.def = c.first_symbol ∙ sym c.second_symbol in
      let same : get_or (map symbol_of u.defs) c.first.number [] ≡ get_or (map symbol_of u.defs) c.second.number [] = symbol_at c.first c.first_in ∙ one ∙ sym (symbol_at c.second c.second_in) in
      false≢true (sym differ ∙ (bytes_eq-Decides (get_or (map symbol_of u.defs) c.first.number []) (get_or (map symbol_of u.defs) c.second.number [])).1 same)

  -- ---- references name something

  symbol_resolves : (s : List ℕ) → Contains (flat_map def_symbols u.defs) s → is_undefined (u ∷ []) (0, s) ≡ false
  symbol_resolves s here =
      let def = Contains-from_flat_map def_symbols u.defs s here in
      let x = def_from p items u of own def.0 def.1 in
      let there : Contains (map (item_symbol p) (candidates_of p x.0)) s = subst (λ symbols. Contains symbols s) (ap def_symbols x.2 ∙ def_refers p External x.0) def.2 in
      let y = Contains-from_map (item_symbol p) (candidates_of p x.0) s there in
      let found = resolved p items u of own 0 y.0 (is.uses x.0 y.0 x.1 y.1) in
      ap (λ t. is_none (resolve (u ∷ []) 0 t)) y.2 ∙ ap is_none found.there

  reference_resolves : (r : ℕ × List ℕ) → Contains (unit_references (0, u)) r ⊎ Contains [] r → is_undefined (u ∷ []) r ≡ false
  reference_resolves r (inl here) =
      let s = Contains-from_map {X = List ℕ} (λ t. (0, t)) (flat_map def_symbols u.defs) r here in
      ap (is_undefined (u ∷ [])) s.2 ∙ symbol_resolves s.0 s.1
  reference_resolves r (inr none) = absurd (omega (arith, none.1))

  pub all_defined : first_undefined (u ∷ []) ≡ None
  all_defined = none_passes (is_undefined (u ∷ [])) (references (u ∷ [])) (λ r here. reference_resolves r (Contains-append_cases (unit_references (0, u)) [] r here))

  -- ---- main is there

  pub main_found : (o : Option Placed) → find (is_shared (item_symbol p (main_item p))) (placed (u ∷ [])) ≡ o → HasMainAt p items (u ∷ [])
  main_found (Some one) at_shared =
      let found = find-Some (is_shared (item_symbol p (main_item p))) (placed (u ∷ [])) one at_shared in
      record {
        target = target_of one;
        found = ap (option_map target_of) at_shared;
        stands = record {
          one = one;
          there = found.0;
          at = refl;
          of_item = names p items u of own (main_item p) is.main one found.0 (and_right (is_external (link_of one.def)) (defines (item_symbol p (main_item p)) one) found.1);
        };
      }
  main_found None at_shared =
      let one = there_is p items u of own (main_item p) is.main in
      absurd (find-None (is_shared (item_symbol p (main_item p))) (placed (u ∷ [])) one.0 at_shared one.1 one.2)
