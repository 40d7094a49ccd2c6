-- Objects that do what their program does.
use Rattle.std.specs.Prelude.{◌≡◌, ℕ}
use Rattle.mm_plain.specs.declared.program.Program.{Program}
use Rattle.mm_objects.specs.declared.objects.Objects.{Objects}
use Rattle.mm_machines.specs.Demand.{observed_demand}
use Rattle.mm_machines.specs.Image.{observed_image}
use Rattle.mm_objects.specs.Linking.{IsLinked}
use Rattle.mm_objects.specs.declared.target.Linked.{Linked}

-- the objects are linked, and after any number of steps what is seen of their image is what is seen of the program
pub record RunAs (p : Program) (objects : Objects) : Type 0 where
  pub image : Linked
  pub linked : IsLinked objects image
  pub same : (n : ℕ) → observed_image objects.units image.main n ≡ observed_demand p n
