-- Linking: when definitions clash, which references name nothing, and what is a linked image.
use Rattle.std.specs.Prelude.{◌≡◌, ◌⊎◌, ℕ, Bool, true, List, [], ◌∷◌, flat_map, map, Option, None, Some, is_none, Contains}
use Rattle.std.specs.Cmp.Lexicographic.{slice_cmp}
use Rattle.std.specs.List.{enumerate_from, find}
use Rattle.std.specs.Ordering.{nat_cmp, ordering_then}
use Rattle.std.specs.declared.cmp.Ordering.{Ordering}
use Rattle.std.specs.declared.cmp.Ordering.TheVariants.{Less}
use Rattle.mm_objects.specs.declared.objects.ObjCallee.TheVariants as callee
use Rattle.mm_objects.specs.declared.objects.ObjDef.{ObjDef}
use Rattle.mm_objects.specs.declared.objects.ObjEnd.{ObjEnd}
use Rattle.mm_objects.specs.declared.objects.ObjEnd.TheVariants as end
use Rattle.mm_objects.specs.declared.objects.ObjUnit.{ObjUnit}
use Rattle.mm_objects.specs.declared.objects.Objects.{Objects}
use Rattle.mm_objects.specs.declared.target.Clash.{Clash}
use Rattle.mm_objects.specs.declared.target.Linked.{Linked}
use Rattle.mm_objects.specs.declared.target.Target.{Target}
use Rattle.mm_objects.specs.Resolution.{Placed, def_blocks, is_external, link_of, placed, resolve, shared_in, symbol_of, target_of}

-- ---- clashes

-- the order of definitions in the text
abbrev pub target_cmp : Target → Target → Ordering
target_cmp t u = ordering_then (nat_cmp t.unit u.unit) (nat_cmp t.def u.def)

-- every unit may refer to it
abbrev pub is_open : Placed → Bool
is_open one = is_external (link_of one.def)

-- two definitions of one symbol, the first before the second in the text, in one unit or both open to every unit
pub record IsClash (us : List ObjUnit) (x : Clash) : Type 0 where
  pub first : Placed
  pub second : Placed
  pub first_in : Contains (placed us) first
  pub second_in : Contains (placed us) second
  pub first_at : x.first ≡ target_of first
  pub second_at : x.second ≡ target_of second
  pub first_symbol : symbol_of first.def ≡ x.symbol
  pub second_symbol : symbol_of second.def ≡ x.symbol
  pub before : target_cmp x.first x.second ≡ Less
  pub both : (first.unit ≡ second.unit) ⊎ ((is_open first ≡ true) × (is_open second ≡ true))

-- clashes by the bytes of the symbol, then by where the first definition is in the text, then the second
abbrev pub clash_cmp : Clash → Clash → Ordering
clash_cmp x y = ordering_then (slice_cmp nat_cmp x.symbol y.symbol) (ordering_then (target_cmp x.first y.first) (target_cmp x.second y.second))

abbrev pub HasNoClash : List ObjUnit → Type 0
HasNoClash us = (x : Clash) → IsClash us x → ⊥

-- ---- references

-- the symbols to which the end of a block refers
abbrev pub end_symbols : ObjEnd → List (List ℕ)
end_symbols (end.Call place (callee.Fn symbol) os label) = symbol ∷ []
end_symbols _ = []

abbrev pub def_symbols : ObjDef → List (List ℕ)
def_symbols d = flat_map (λ b. end_symbols b.end) (def_blocks (Some d))

-- a symbol, in the unit with the number, of each reference in it
abbrev pub unit_references : ℕ × ObjUnit → List (ℕ × List ℕ)
unit_references one = map (λ s. (one.0, s)) (flat_map def_symbols one.1.defs)

-- each reference in order of the text: the number of its unit, and its symbol
abbrev pub references : List ObjUnit → List (ℕ × List ℕ)
references us = flat_map unit_references (enumerate_from 0 us)

-- the reference names nothing
abbrev pub is_undefined : List ObjUnit → ℕ × List ℕ → Bool
is_undefined us r = is_none (resolve us r.0 r.1)

-- the first reference that names nothing
abbrev pub first_undefined : List ObjUnit → Option (ℕ × List ℕ)
first_undefined us = find (is_undefined us) (references us)

-- ---- images

-- the objects are linked: no two definitions clash, each reference names a definition, and so does the main symbol
pub record IsLinked (o : Objects) (image : Linked) : Type 0 where
  pub objects : image.objects ≡ o
  pub one : HasNoClash o.units
  pub all : first_undefined o.units ≡ None
  pub main : shared_in o.units o.main ≡ Some image.main
