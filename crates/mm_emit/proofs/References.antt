-- Each reference names a definition of the item that is used there.
use Rattle.std.proofs.Common.{◌≡◌, ℕ, ◌⊎◌, inl, inr, ◌&&◌, ◌==◌, true, List, [], ◌∷◌, map, Some, None, refl, sym, ap, ◌∙◌, subst, arith}
use Rattle.std.specs.declared.option.Option.{Option}
use Rattle.std.specs.Prelude.{Contains, slice_get}
use Rattle.std.specs.List.{enumerate_from, find}
use Rattle.std.specs.Option.{option_or}
use Rattle.std.specs.Str.{bytes_eq}
use Rattle.std.proofs.lemmas.List.Elements.{Contains-append_left, Contains-append_cases}
use Rattle.std.proofs.lemmas.List.Sorted.{Contains-permutation, IsPermutation-sym}
use Rattle.std.proofs.lemmas.Slice.Eq.{bytes_eq-Decides}
use Rattle.mm_terms.specs.declared.tree.Tree.{Tree}
use Rattle.mm_terms.specs.declared.item.Item.{Item}
use Rattle.mm_terms.specs.declared.item.Item.TheVariants.{Fn, Glue, Shim, Static}
use Rattle.mm_plain.specs.declared.program.Program.{Program}
use Rattle.mm_plain.specs.declared.program.Function.{Function}
use Rattle.mm_plain.specs.Roots.{main_item}
use Rattle.mm_objects.specs.declared.objects.Objects.{Objects}
use Rattle.mm_objects.specs.declared.objects.ObjUnit.{ObjUnit}
use Rattle.mm_objects.specs.declared.objects.ObjDef.{ObjDef}
use Rattle.mm_objects.specs.declared.objects.Linkage.{Linkage}
use Rattle.mm_objects.specs.declared.objects.Linkage.TheVariants.{External}
use Rattle.mm_objects.specs.Resolution.{Placed, placed, resolve, is_own, is_shared, is_external, defines, symbol_of, link_of}
use Rattle.mm_objects.specs.Emitted.{AreObjectsOf, AllResolve, HaveOwnSymbols, IsOf, IsUnitOf, Resolves, UseThemselves, AreUnitsOf, code_of, def_of, item_symbol, whole_crate}
use Rattle.mm_terms.proofs.ListLemmas.{and_right, find-Some, find-None, Contains-from_map, Contains-map, Contains-enumerate, Contains-enumerated}

-- ---- definitions

code_symbol : (p : Program) (s : List ℕ) (link : Linkage) (args : List Tree) (o : Option Function) → symbol_of (code_of p s link args o) ≡ s
code_symbol p s link args None = refl
code_symbol p s link args (Some f) = refl

code_link : (p : Program) (s : List ℕ) (link : Linkage) (args : List Tree) (o : Option Function) → link_of (code_of p s link args o) ≡ link
code_link p s link args None = refl
code_link p s link args (Some f) = refl

-- a definition of an item has the symbol of the item, and the linkage that it is given
pub def_symbol : (p : Program) (link : Linkage) (x : Item) → symbol_of (def_of p link x) ≡ item_symbol p x
def_symbol p link (Fn d args) = code_symbol p (item_symbol p (Fn d args)) link args (slice_get p.functions d.0)
def_symbol p link (Glue t) = refl
def_symbol p link (Shim t) = refl
def_symbol p link (Static d) = refl

pub def_link : (p : Program) (link : Linkage) (x : Item) → link_of (def_of p link x) ≡ link
def_link p link (Fn d args) = code_link p (item_symbol p (Fn d args)) link args (slice_get p.functions d.0)
def_link p link (Glue t) = refl
def_link p link (Shim t) = refl
def_link p link (Static d) = refl

-- ---- the one unit

module _ (p : Program) (items : List Item) (u : ObjUnit) (is : IsUnitOf p (whole_crate p items) u) (own : HaveOwnSymbols p items) where
  abbrev pub made : Item × Linkage → ObjDef
  made one = def_of p one.1 one.0

  abbrev pub shared : Item → Item × Linkage
  shared x = (x, External)

  abbrev pub at : ℕ × ObjDef → Placed
  at def = record { unit = 0; number = def.0; def = def.1 }

  -- each definition is of an item
  pub def_from : (d : ObjDef) → Contains u.defs d → (x : Item) × Contains items x × (d ≡ def_of p External x)
  def_from d here =
      let there = Contains-permutation u.defs (map made (map shared items)) d (IsPermutation-sym (map made (map shared items)) u.defs is.of_items) here in
      let one = Contains-from_map made (map shared items) d there in
      let x = Contains-from_map shared items one.0 one.1 in
      (x.0, x.1, one.2 ∙ ap made x.2)

  -- what is placed is a definition of the unit
  pub placed_cases : (one : Placed) → Contains (map at (enumerate_from 0 u.defs)) one ⊎ Contains [] one → Contains u.defs one.def
  placed_cases one (inl here) =
      let e = Contains-from_map at (enumerate_from 0 u.defs) one here in
      subst (Contains u.defs) (sym (ap (λ o. o.def) e.2)) (Contains-enumerate 0 u.defs e.0 e.1)
  placed_cases one (inr none) = absurd (omega (arith, none.1))

  pub placed_from : (one : Placed) → Contains (placed (u ∷ [])) one → Contains u.defs one.def
  placed_from one here = placed_cases one (Contains-append_cases (map at (enumerate_from 0 u.defs)) [] one here)

  -- a definition of an item's symbol is of the item
  pub names : (y : Item) → Contains items y → (one : Placed) → Contains (placed (u ∷ [])) one → defines (item_symbol p y) one ≡ true → IsOf p items y one.def
  names y member one there defined =
      let from = def_from one.def (placed_from one there) in
      let symbol : symbol_of one.def ≡ item_symbol p y = (bytes_eq-Decides (symbol_of one.def) (item_symbol p y)).0 defined in
      let same : from.0 ≡ y = own from.0 y from.1 member (sym (def_symbol p External from.0) ∙ ap symbol_of (sym from.2) ∙ symbol) in
      record { compiled = member; link = External; is = from.2 ∙ ap (def_of p External) same }

  is_shared_def : (y : Item) (k : ℕ) → is_shared (item_symbol p y) (at (k, def_of p External y)) ≡ true
  is_shared_def y k =
      ap (λ link. is_external link && bytes_eq (symbol_of (def_of p External y)) (item_symbol p y)) (def_link p External y)
      ∙ (bytes_eq-Decides (symbol_of (def_of p External y)) (item_symbol p y)).1 (def_symbol p External y)

  -- each item has a definition that all may refer to
  pub there_is : (y : Item) → Contains items y → (one : Placed) × Contains (placed (u ∷ [])) one × (is_shared (item_symbol p y) one ≡ true)
  there_is y member =
      let def = Contains-permutation (map made (map shared items)) u.defs (def_of p External y) is.of_items (Contains-map made (map shared items) (y, External) (Contains-map shared items y member)) in
      let k = Contains-enumerated 0 u.defs (def_of p External y) def in
      let one = at (k.0, def_of p External y) in
      (one, Contains-append_left (map at (enumerate_from 0 u.defs)) [] one (Contains-map at (enumerate_from 0 u.defs) (k.0, def_of p External y) k.1), is_shared_def y k.0)

  resolved_own : (unit : ℕ) (y : Item) (one : Placed) → find (is_own unit (item_symbol p y)) (placed (u ∷ [])) ≡ Some one → resolve (u ∷ []) unit (item_symbol p y) ≡ Some one
  unfolding resolve
  resolved_own unit y one at_own = ap (λ o. option_or o (find (is_shared (item_symbol p y)) (placed (u ∷ [])))) at_own

  resolved_shared : (unit : ℕ) (y : Item) (one : Placed) → find (is_own unit (item_symbol p y)) (placed (u ∷ [])) ≡ None → find (is_shared (item_symbol p y)) (placed (u ∷ [])) ≡ Some one → resolve (u ∷ []) unit (item_symbol p y) ≡ Some one
  unfolding resolve
  resolved_shared unit y one at_own at_shared = ap (λ o. option_or o (find (is_shared (item_symbol p y)) (placed (u ∷ [])))) at_own ∙ at_shared

  by_cases : (unit : ℕ) (y : Item) → Contains items y → (o s : Option Placed) → find (is_own unit (item_symbol p y)) (placed (u ∷ [])) ≡ o → find (is_shared (item_symbol p y)) (placed (u ∷ [])) ≡ s → Resolves p items (u ∷ []) unit y
  by_cases unit y member (Some one) s at_own at_shared =
      let found = find-Some (is_own unit (item_symbol p y)) (placed (u ∷ [])) one at_own in
      record { found = one; there = resolved_own unit y one at_own; of_item = names y member one found.0 (and_right (one.unit == unit) (defines (item_symbol p y) one) found.1) }
  by_cases unit y member None (Some one) at_own at_shared =
      let found = find-Some (is_shared (item_symbol p y)) (placed (u ∷ [])) one at_shared in
      record { found = one; there = resolved_shared unit y one at_own at_shared; of_item = names y member one found.0 (and_right (is_external (link_of one.def)) (defines (item_symbol p y) one) found.1) }
  by_cases unit y member None None at_own at_shared =
      let one = there_is y member in
      absurd (find-None (is_shared (item_symbol p y)) (placed (u ∷ [])) one.0 at_shared one.1 one.2)

  pub resolved : (unit : ℕ) (y : Item) → Contains items y → Resolves p items (u ∷ []) unit y
  resolved unit y member = by_cases unit y member (find (is_own unit (item_symbol p y)) (placed (u ∷ []))) (find (is_shared (item_symbol p y)) (placed (u ∷ []))) refl refl

-- ---- objects

module _ (p : Program) (items : List Item) where
  units_resolve : (units : List ObjUnit) → AreUnitsOf p (whole_crate p items ∷ []) units → HaveOwnSymbols p items → (unit : ℕ) (y : Item) → Contains items y → Resolves p items units unit y
  units_resolve [] are own = absurd are
  units_resolve (u ∷ []) are own = resolved p items u are.0 own
  units_resolve (u ∷ v ∷ more) are own = absurd are.1

  pub all_resolve : (objects : Objects) → HaveOwnSymbols p items → UseThemselves p items → AreObjectsOf p (whole_crate p items ∷ []) objects → AllResolve p items objects.units
  all_resolve objects own uses are one x y there of_item used = units_resolve objects.units are.units own one.unit y (uses x y of_item.compiled used)

  pub main_resolves : (objects : Objects) → HaveOwnSymbols p items → Contains items (main_item p) → AreObjectsOf p (whole_crate p items ∷ []) objects → Resolves p items objects.units 0 (main_item p)
  main_resolves objects own main are = units_resolve objects.units are.units own 0 (main_item p) main
