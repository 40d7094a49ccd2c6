-- The verdict from what was asked in turn.
use Rattle.std.specs.Prelude.{Err}
use Rattle.mm_objects.specs.declared.objects.Objects.{Objects}
use Rattle.mm_link.specs.Clashes.{HasAll}
use Rattle.mm_link.specs.Linking.{IsVerdict}
use Rattle.mm_objects.specs.Linking.{HasNoClash}
use Rattle.mm_link.specs.declared.fault.LinkFault.{LinkFault}
use Rattle.mm_link.specs.declared.fault.LinkFault.TheVariants as fault

module _ (o : Objects) where
  pub is_missing : (f : LinkFault) → HasNoClash o.units → HasAll o.units (Err f) → IsVerdict o (Err f)
  is_missing (fault.Double symbol first second) one has = absurd has
  is_missing (fault.Undefined unit symbol) one has = record { one = one; reference = has.0; first = has.1; unit_is = has.2; symbol_is = has.3 }
  is_missing fault.NoMain one has = absurd has
  is_missing fault.NoMemory one has = tt
