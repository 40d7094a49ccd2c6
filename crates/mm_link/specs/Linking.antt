-- The verdict of linking, and the clashes that an index of symbols reports.
use Rattle.std.specs.Prelude.{◌≡◌, ◌≢◌, ℕ, List, [], ◌∷◌, ◌++◌, Result, Ok, Err, Option, None, Some, slice_get, ⊤, if◌then◌else◌}
use Rattle.std.specs.Ordering.{is_lt}
use Rattle.std.specs.declared.cmp.Ordering.TheVariants.{Less}
use Rattle.mm_objects.specs.declared.objects.ObjUnit.{ObjUnit}
use Rattle.mm_objects.specs.declared.objects.Objects.{Objects}
use Rattle.mm_objects.specs.declared.target.Clash.{Clash}
use Rattle.mm_objects.specs.declared.target.Linked.{Linked}
use Rattle.mm_objects.specs.declared.target.Target.{Target}
use Rattle.mm_objects.specs.Linking.{HasNoClash, IsClash, IsLinked, clash_cmp, first_undefined, target_cmp}
use Rattle.mm_objects.specs.Resolution.{Placed, shared_in, symbol_of, target_of}
use Rattle.mm_link.specs.Index.{open_in, own_in}
use Rattle.mm_link.specs.declared.fault.LinkFault.{LinkFault}
use Rattle.mm_link.specs.declared.fault.LinkFault.TheVariants as fault

-- ---- the verdict

-- the name of a unit
abbrev pub name_at : Option ObjUnit → List ℕ
name_at None = []
name_at (Some u) = u.name

-- the symbol and the names of the units of the least clash
pub record IsDouble (us : List ObjUnit) (symbol first second : List ℕ) : Type 0 where
  pub clash : Clash
  pub clashes : IsClash us clash
  pub least : (y : Clash) → IsClash us y → clash_cmp y clash ≢ Less
  pub symbol_is : symbol ≡ clash.symbol
  pub first_is : first ≡ name_at (slice_get us clash.first.unit)
  pub second_is : second ≡ name_at (slice_get us clash.second.unit)

pub record IsUndefined (o : Objects) (unit symbol : List ℕ) : Type 0 where
  pub one : HasNoClash o.units
  pub reference : ℕ × List ℕ
  pub first : first_undefined o.units ≡ Some reference
  pub unit_is : unit ≡ name_at (slice_get o.units reference.0)
  pub symbol_is : symbol ≡ reference.1

pub record HasNoMain (o : Objects) : Type 0 where
  pub one : HasNoClash o.units
  pub all : first_undefined o.units ≡ None
  pub none : shared_in o.units o.main ≡ None

-- the first of these: definitions clash; a reference names nothing; no definition of the main symbol is open; all is there
abbrev pub IsVerdict : Objects → Result Linked LinkFault → Type 0
IsVerdict o (Ok image) = IsLinked o image
IsVerdict o (Err (fault.Double symbol first second)) = IsDouble o.units symbol first second
IsVerdict o (Err (fault.Undefined unit symbol)) = IsUndefined o unit symbol
IsVerdict o (Err fault.NoMain) = HasNoMain o
IsVerdict o (Err fault.NoMemory) = ⊤

-- ---- clashes that an index tells of

-- a definition clashes with an earlier one
abbrev pub earlier : Option Target → List ℕ → Target → List Clash
earlier None symbol t = []
earlier (Some a) symbol t = if is_lt (target_cmp a t) then record { symbol = symbol; first = a; second = t } ∷ [] else []

-- a definition clashes with the unit's own first definition of its symbol, and with the first that is open, where it is
abbrev pub reported : List ObjUnit → Placed → List Clash
reported us b =
    earlier (own_in us b.unit (symbol_of b.def)) (symbol_of b.def) (target_of b)
    ++ earlier (open_in us b.def) (symbol_of b.def) (target_of b)
