-- The one unit of a crate.
use Rattle.std.proofs.Common.{◌≡◌, ℕ, List, ◌++◌, map, codes, sym, subst}
use Rattle.std.specs.List.Sorted.{IsPermutation, IsSortedByKey}
use Rattle.std.specs.Cmp.Lexicographic.{slice_cmp}
use Rattle.std.specs.Ordering.{nat_cmp}
use Rattle.std.proofs.lemmas.Simd.{map-map}
use Rattle.mm_terms.specs.declared.item.Item.{Item}
use Rattle.mm_plain.specs.declared.program.Program.{Program}
use Rattle.mm_objects.specs.declared.objects.ObjDef.{ObjDef}
use Rattle.mm_objects.specs.declared.objects.Linkage.TheVariants.{External}
use Rattle.mm_objects.specs.Resolution.{symbol_of}
use Rattle.mm_objects.specs.Emitted.{IsUnitOf, def_of, whole_crate}

pub whole_unit_made : (p : Program) (items : List Item) (name : List ℕ) (defs : List ObjDef) → name ≡ p.krate ++ codes "/" ++ p.krate ++ codes ".stable" → IsPermutation (map (def_of p External) items) defs → IsSortedByKey symbol_of (slice_cmp nat_cmp) defs → IsUnitOf p (whole_crate p items) (record { name = name; defs = defs })
whole_unit_made p items name defs named of_items sorted = record {
  name = named;
  of_items = subst (λ made. IsPermutation made defs) (sym (map-map (λ one. def_of p one.1 one.0) (λ x. (x, External)) items)) of_items;
  sorted = sorted;
}
