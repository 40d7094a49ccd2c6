-- The objects of complete items are linked, and their image does what the program does.
use Rattle.std.proofs.Common.{◌≡◌, List, [], ◌∷◌, None, refl, ◌∙◌, ap}
use Rattle.std.specs.List.{find}
use Rattle.mm_terms.specs.declared.item.Item.{Item}
use Rattle.mm_plain.specs.declared.program.Program.{Program}
use Rattle.mm_plain.specs.Roots.{main_item}
use Rattle.mm_objects.specs.declared.objects.Objects.{Objects}
use Rattle.mm_objects.specs.declared.objects.ObjUnit.{ObjUnit}
use Rattle.mm_objects.specs.Emitted.{AreObjectsOf, AreUnitsOf, item_symbol, whole_crate}
use Rattle.mm_objects.specs.Resolution.{placed, is_shared, shared_in}
use Rattle.mm_objects.specs.Linking.{HasNoClash, first_undefined}
use Rattle.mm_machines.proofs.Simulation.{simulates}
use Rattle.mm_emit.specs.Complete.{IsComplete}
use Rattle.mm_emit.specs.Faithful.{RunAs}
use Rattle.mm_emit.proofs.OwnSymbols.{own_symbols}
use Rattle.mm_emit.proofs.References.{all_resolve}
use Rattle.mm_emit.proofs.LinkedLemmas.{HasMainAt, all_defined, main_found, no_clash}

-- the units lack nothing
record AreWhole (p : Program) (items : List Item) (units : List ObjUnit) : Type 0 where
  one : HasNoClash units
  all : first_undefined units ≡ None
  main : HasMainAt p items units

module _ (p : Program) (items : List Item) (is : IsComplete p items) where
  units_whole : (units : List ObjUnit) → AreUnitsOf p (whole_crate p items ∷ []) units → AreWhole p items units
  units_whole [] are = absurd are
  units_whole (u ∷ []) are =
      record {
        one = no_clash p items is u are.0;
        all = all_defined p items is u are.0;
        main = main_found p items is u are.0 (find (is_shared (item_symbol p (main_item p))) (placed (u ∷ []))) refl;
      }
  units_whole (u ∷ v ∷ more) are = absurd are.1

  pub run_as : (objects : Objects) → AreObjectsOf p (whole_crate p items ∷ []) objects → RunAs p objects
  run_as objects are =
      let whole = units_whole objects.units are.units in
      record {
        image = record { objects = objects; main = whole.main.target };
        linked = record { objects = refl; one = whole.one; all = whole.all; main = ap (shared_in objects.units) are.main ∙ whole.main.found };
        same = λ n. simulates p items objects.units whole.main.target n (all_resolve p items objects (own_symbols p items is) is.uses are) whole.main.stands;
      }
