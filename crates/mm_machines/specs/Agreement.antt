-- When units are a program's: each reference in a definition of an item names a definition of the item that is called.
use Rattle.std.specs.Prelude.{◌≡◌, List, Contains}
use Rattle.mm_terms.specs.declared.item.Item.{Item}
use Rattle.mm_plain.specs.declared.program.Program.{Program}
use Rattle.mm_objects.specs.declared.objects.ObjUnit.{ObjUnit}
use Rattle.mm_objects.specs.Emitted.{IsOf}
use Rattle.mm_objects.specs.Resolution.{Placed, placed, target_of}
use Rattle.mm_objects.specs.declared.target.Target.{Target}

-- a definition of the item stands at the target
pub record StandsAt (p : Program) (items : List Item) (us : List ObjUnit) (x : Item) (t : Target) : Type 0 where
  pub one : Placed
  pub there : Contains (placed us) one
  pub at : t ≡ target_of one
  pub of_item : IsOf p items x one.def
