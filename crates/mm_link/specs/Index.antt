-- What an index answers: the definitions of symbols, in all units and in each.
use Rattle.std.specs.Prelude.{ℕ, ◌+◌, Bool, true, false, List, [], ◌∷◌, map, flat_map, Option, None, Some, if◌then◌else◌}
use Rattle.std.specs.Global.{Vec}
use Rattle.std.specs.HashMap.{HashMap, get_by}
use Rattle.std.specs.List.{enumerate_from, find}
use Rattle.std.specs.Option.{option_map}
use Rattle.std.specs.Str.{bytes_eq}
use Rattle.mm_objects.specs.declared.objects.ObjDef.{ObjDef}
use Rattle.mm_objects.specs.declared.objects.ObjUnit.{ObjUnit}
use Rattle.mm_objects.specs.Resolution.{Placed, is_external, link_of, symbol_of, defines, is_own, is_shared, placed, placed_in, shared_in, target_of}
use Rattle.mm_objects.specs.declared.target.Target.{Target}

-- the lookup of a symbol in a map
abbrev pub look_up : {X S : Type 0} → HashMap (Vec ℕ) X S → List ℕ → Option X
look_up m s = get_by (λ k. bytes_eq s k.items) m

-- the lookup of a symbol in a map that may not be there
abbrev pub look_up_if : {X S : Type 0} → Option (HashMap (Vec ℕ) X S) → List ℕ → Option X
look_up_if None s = None
look_up_if (Some m) s = look_up m s

-- a definition of the symbol, and where that is asked one to which every unit may refer
abbrev pub passes : Bool → List ℕ → Placed → Bool
passes true = is_shared
passes false = defines

-- a definition of a unit, with its position in the unit
abbrev pub placed_at : ℕ → ℕ × ObjDef → Placed
placed_at unit d = record { unit = unit; number = d.0; def = d.1 }

-- the first that passes, among definitions of a unit that stand from a position on
abbrev pub found_from : Bool → ℕ → ℕ → List ObjDef → List ℕ → Option Target
found_from shared unit n ds s = option_map target_of (find (passes shared s) (map (placed_at unit) (enumerate_from n ds)))

-- the first definition of the symbol to which every unit may refer, among units that stand from a position on
abbrev pub shared_from : ℕ → List ObjUnit → List ℕ → Option Target
shared_from n us s = option_map target_of (find (is_shared s) (flat_map placed_in (enumerate_from n us)))

-- the first definition of the symbol of one to which every unit may refer, where that is so of this one
abbrev pub open_in : List ObjUnit → ObjDef → Option Target
open_in us d = if is_external (link_of d) then shared_in us (symbol_of d) else None

-- the unit's own first definition of the symbol
abbrev pub own_in : List ObjUnit → ℕ → List ℕ → Option Target
own_in us unit s = option_map target_of (find (is_own unit s) (placed us))

-- the definitions by symbol of each of the units that stand from a position on
abbrev pub own_names : ℕ → List ObjUnit → List (List ℕ → Option Target)
own_names n [] = []
own_names n (u ∷ us) = found_from false n 0 u.defs ∷ own_names (n + 1) us
