-- Items that have symbols of their own are compiled to one list of definitions.
use Rattle.std.proofs.Common.{◌≡◌, ◌+◌, ◌<◌, List, [], ◌∷◌, map, length, get_or, drop, refl, sym, ap, ◌∙◌, arith}
use Rattle.std.specs.Prelude.{Contains}
use Rattle.std.specs.Cmp.Lexicographic.{slice_cmp}
use Rattle.std.specs.List.Sorted.{IsPermutation, IsSorted, IsSortedByKey}
use Rattle.std.specs.Ordering.{nat_cmp, is_lt}
use Rattle.std.proofs.lemmas.List.{get_or-map, length-map}
use Rattle.std.proofs.lemmas.List.Elements.{Contains-append_right}
use Rattle.std.proofs.lemmas.List.Sorted.{Contains-permutation, IsPermutation-map, IsPermutation-sym, IsPermutation-trans}
use Rattle.mm_terms.specs.declared.item.Item.{Item}
use Rattle.mm_plain.specs.declared.program.Program.{Program}
use Rattle.mm_objects.specs.declared.objects.Objects.{Objects}
use Rattle.mm_objects.specs.declared.objects.ObjUnit.{ObjUnit}
use Rattle.mm_objects.specs.declared.objects.ObjDef.{ObjDef}
use Rattle.mm_objects.specs.declared.objects.Linkage.{Linkage}
use Rattle.mm_objects.specs.declared.objects.Linkage.TheVariants.{External}
use Rattle.mm_objects.specs.Resolution.{symbol_of}
use Rattle.mm_objects.specs.Emitted.{AreObjectsOf, AreUnitsOf, HaveOwnSymbols, IsUnitOf, def_of, item_symbol, whole_crate}
use Rattle.mm_emit.proofs.OneOrder.{sorted_one}
use Rattle.mm_emit.proofs.References.{def_from, def_symbol}

-- elements that are reported apart by a key, where the keys are the same, are the same
reported : {X K : Type 0} (key : X → K) (xs ys : List X) → ((x y : X) → Contains xs x → Contains ys y → key x ≡ key y → x ≡ y) → map key xs ≡ map key ys → xs ≡ ys
reported key [] [] own same = refl
reported key [] (y ∷ ys) own same = absurd (omega (arith, ap length same))
reported key (x ∷ xs) [] own same = absurd (omega (arith, ap length same))
reported key (x ∷ xs) (y ∷ ys) own same =
    let first : x ≡ y = own x y (0, omega arith, refl) (0, omega arith, refl) (ap (λ ks. get_or ks 0 (key x)) same) in
    let others : xs ≡ ys = reported key xs ys (λ a b inside there. own a b (Contains-append_right (x ∷ []) xs a inside) (Contains-append_right (y ∷ []) ys b there)) (ap (drop 1) same) in
    ap (λ a. a ∷ xs) first ∙ ap (λ l. y ∷ l) others

-- the keys of what is in order are in order
keys_sorted : (defs : List ObjDef) → IsSortedByKey symbol_of (slice_cmp nat_cmp) defs → IsSorted (slice_cmp nat_cmp) (map symbol_of defs)
keys_sorted [] sorted k d low high = absurd (omega (arith, high))
keys_sorted (def ∷ defs) sorted k d low high =
    let within : k + 1 < length (def ∷ defs) = omega (arith, high, length-map (def ∷ defs) symbol_of) in
    let next = get_or-map symbol_of (def ∷ defs) (k + 1) def d within in
    let this = get_or-map symbol_of (def ∷ defs) k def d (omega (arith, within)) in
    (λ i. is_lt (slice_cmp nat_cmp (next i) (this i))) ∙ sorted k def low within

module _ (p : Program) (items others : List Item) (own : HaveOwnSymbols p items) (moved : IsPermutation items others) where
  abbrev made : Item × Linkage → ObjDef
  made one = def_of p one.1 one.0

  abbrev shared : Item → Item × Linkage
  shared x = (x, External)

  own_too : HaveOwnSymbols p others
  own_too x y inside there = own x y (Contains-permutation others items x (IsPermutation-sym items others moved) inside) (Contains-permutation others items y (IsPermutation-sym items others moved) there)

  same_defs : (u v : ObjUnit) → IsUnitOf p (whole_crate p items) u → IsUnitOf p (whole_crate p others) v → IsPermutation u.defs v.defs
  same_defs u v a b =
      IsPermutation-trans u.defs (map made (map shared items)) v.defs (IsPermutation-sym (map made (map shared items)) u.defs a.of_items)
      (IsPermutation-trans (map made (map shared items)) (map made (map shared others)) v.defs
      (IsPermutation-map made (map shared items) (map shared others) (IsPermutation-map shared items others moved)) b.of_items)

  unit_one : (u v : ObjUnit) → IsUnitOf p (whole_crate p items) u → IsUnitOf p (whole_crate p others) v → u ≡ v
  unit_one u v a b =
      let symbols = sorted_one (map symbol_of u.defs) (map symbol_of v.defs) (IsPermutation-map symbol_of u.defs v.defs (same_defs u v a b)) (keys_sorted u.defs a.sorted) (keys_sorted v.defs b.sorted) in
      let defs = reported symbol_of u.defs v.defs (λ d e inside there key.
      let x = def_from p items u a own d inside in
      let y = def_from p others v b own_too e there in
      let symbol : item_symbol p x.0 ≡ item_symbol p y.0 = sym (def_symbol p External x.0) ∙ ap symbol_of (sym x.2) ∙ key ∙ ap symbol_of y.2 ∙ def_symbol p External y.0 in
      let same : x.0 ≡ y.0 = own x.0 y.0 x.1 (Contains-permutation others items y.0 (IsPermutation-sym items others moved) y.1) symbol in
      x.2 ∙ ap (def_of p External) same ∙ sym y.2) symbols in
      λ i. record { name = (a.name ∙ sym b.name) i; defs = defs i }

  units_one : (us vs : List ObjUnit) → AreUnitsOf p (whole_crate p items ∷ []) us → AreUnitsOf p (whole_crate p others ∷ []) vs → us ≡ vs
  units_one [] vs a b = absurd a
  units_one (u ∷ []) [] a b = absurd b
  units_one (u ∷ []) (v ∷ []) a b = ap (λ w. w ∷ []) (unit_one u v a.0 b.0)
  units_one (u ∷ []) (v ∷ w ∷ ws) a b = absurd b.1
  units_one (u ∷ t ∷ ts) vs a b = absurd a.1

  pub emission_one : (one other : Objects) → AreObjectsOf p (whole_crate p items ∷ []) one → AreObjectsOf p (whole_crate p others ∷ []) other → one ≡ other
  emission_one one other a b = λ i. record { main = (a.main ∙ sym b.main) i; units = units_one one.units other.units a.units b.units i }
