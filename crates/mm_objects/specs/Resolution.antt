-- What a reference names: which definition a symbol stands for in a unit.
use Rattle.std.specs.Prelude.{ℕ, ◌==◌, ◌&&◌, Bool, true, false, List, [], map, flat_map, slice_get, Option, None, Some}
use Rattle.std.specs.List.{enumerate_from, find}
use Rattle.std.specs.Option.{option_map, option_or}
use Rattle.std.specs.Str.{bytes_eq}
use Rattle.mm_objects.specs.declared.objects.Linkage.{Linkage}
use Rattle.mm_objects.specs.declared.objects.Linkage.TheVariants.{External, Internal}
use Rattle.mm_objects.specs.declared.objects.ObjBlock.{ObjBlock}
use Rattle.mm_objects.specs.declared.objects.ObjDef.{ObjDef}
use Rattle.mm_objects.specs.declared.objects.ObjDef.TheVariants.{Code}
use Rattle.mm_objects.specs.declared.objects.ObjUnit.{ObjUnit}
use Rattle.mm_objects.specs.declared.target.Target.{Target}

-- a definition and its place: the number of its unit, and its own among the definitions of the unit
pub record Placed : Type 0 where
  pub unit : ℕ
  pub number : ℕ
  pub def : ObjDef

abbrev pub symbol_of : ObjDef → List ℕ
symbol_of (Code symbol link params locals blocks) = symbol

abbrev pub link_of : ObjDef → Linkage
link_of (Code symbol link params locals blocks) = link

abbrev pub is_external : Linkage → Bool
is_external External = true
is_external Internal = false

-- the indices of a definition
abbrev pub target_of : Placed → Target
target_of one = record { unit = one.unit; def = one.number }

-- the definitions of the unit with the number
abbrev pub placed_in : ℕ × ObjUnit → List Placed
placed_in one = map (λ def. record { unit = one.0; number = def.0; def = def.1 }) (enumerate_from 0 one.1.defs)

-- all definitions, unit by unit in order
abbrev pub placed : List ObjUnit → List Placed
placed units = flat_map placed_in (enumerate_from 0 units)

-- it is a definition of the symbol
abbrev pub defines : List ℕ → Placed → Bool
defines symbol one = bytes_eq (symbol_of one.def) symbol

-- it is the unit's own definition of the symbol
abbrev pub is_own : ℕ → List ℕ → Placed → Bool
is_own unit symbol one = (one.unit == unit) && defines symbol one

-- it is a definition of the symbol to which every unit may refer
abbrev pub is_shared : List ℕ → Placed → Bool
is_shared symbol one = is_external (link_of one.def) && defines symbol one

-- What a reference to the symbol in the unit with the number names: the unit's own definition of the symbol, else the
-- External one; nothing where there is none. Where there are several, which a linker refuses, it is the first.
unfoldable pub resolve : List ObjUnit → ℕ → List ℕ → Option Placed
resolve units unit symbol = option_or (find (is_own unit symbol) (placed units)) (find (is_shared symbol) (placed units))

-- the first definition of the symbol to which every unit may refer
abbrev pub shared_in : List ObjUnit → List ℕ → Option Target
shared_in units symbol = option_map target_of (find (is_shared symbol) (placed units))

-- what a reference names, by its target
abbrev pub find_in : List ObjUnit → ℕ → List ℕ → Option Target
find_in units unit symbol = option_map target_of (resolve units unit symbol)

-- ---- targets

-- the definition at a target, where there is one
abbrev pub def_in : ℕ → Option ObjUnit → Option ObjDef
def_in n None = None
def_in n (Some u) = slice_get u.defs n

abbrev pub def_at : List ObjUnit → Target → Option ObjDef
def_at us t = def_in t.def (slice_get us t.unit)

-- the blocks of a definition. One that is not there has none
abbrev pub def_blocks : Option ObjDef → List ObjBlock
def_blocks None = []
def_blocks (Some (Code symbol link params locals blocks)) = blocks
