-- What code keeps while it looks for clashes.
use Rattle.std.specs.Prelude.{◌≡◌, ◌≢◌, ℕ, ◌<◌, List, [], length, get_or, All, Option, None, Some, Result, Ok, Err, ⊤, slice_get}
use Rattle.std.specs.declared.cmp.Ordering.TheVariants.{Less}
use Rattle.mm_objects.specs.declared.objects.ObjUnit.{ObjUnit}
use Rattle.mm_link.specs.Linking.{IsDouble, name_at}
use Rattle.mm_objects.specs.Linking.{HasNoClash, IsClash, clash_cmp, first_undefined}
use Rattle.mm_objects.specs.declared.target.Clash.{Clash}
use Rattle.mm_link.specs.declared.fault.LinkFault.{LinkFault}
use Rattle.mm_link.specs.declared.fault.LinkFault.TheVariants as fault

-- none of the clashes is less than the one at the position, and where there is no position there are none
abbrev pub IsLeast : List Clash → Option ℕ → Type 0
IsLeast xs None = xs ≡ []
IsLeast xs (Some n) = (n < length xs) × ((d : Clash) → All (λ y. clash_cmp y (get_or xs n d) ≢ Less) xs)

-- the least clash, and where there is none no clash
abbrev pub IsFirst : List ObjUnit → Option Clash → Type 0
IsFirst us None = HasNoClash us
IsFirst us (Some x) = IsClash us x × ((y : Clash) → IsClash us y → clash_cmp y x ≢ Less)

-- no clash, or the fault of the least one
abbrev pub HasOne : List ObjUnit → Result ⊤ LinkFault → Type 0
HasOne us (Ok u) = HasNoClash us
HasOne us (Err (fault.Double symbol first second)) = IsDouble us symbol first second
HasOne us (Err fault.NoMemory) = ⊤
HasOne us (Err other) = ⊥

-- each reference names something, or the fault of the first that does not
abbrev pub HasAll : List ObjUnit → Result ⊤ LinkFault → Type 0
HasAll us (Ok u) = first_undefined us ≡ None
HasAll us (Err (fault.Undefined unit symbol)) = (r : ℕ × List ℕ) × (first_undefined us ≡ Some r) × (unit ≡ name_at (slice_get us r.0)) × (symbol ≡ r.1)
HasAll us (Err fault.NoMemory) = ⊤
HasAll us (Err other) = ⊥
