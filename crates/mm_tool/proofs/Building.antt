-- What is written of complete items is the text of objects that are linked and run as the program.
use Rattle.std.proofs.Common.{◌≡◌, ℕ, List, [], ◌∷◌}
use Rattle.mm_terms.specs.declared.item.Item.{Item}
use Rattle.mm_plain.specs.declared.program.Program.{Program}
use Rattle.mm_objects.specs.declared.objects.Objects.{Objects}
use Rattle.mm_objects.specs.Emitted.{AreObjectsOf, whole_crate}
use Rattle.mm_objects.specs.ObjectText.{objects_text}
use Rattle.mm_emit.specs.Complete.{IsComplete}
use Rattle.mm_emit.specs.Numbers.{NumbersFit}
use Rattle.mm_emit.proofs.HaveText.{have_text}
use Rattle.mm_emit.proofs.OwnSymbols.{own_symbols}
use Rattle.mm_emit.proofs.References.{all_resolve}
use Rattle.mm_emit.proofs.Running.{run_as}
use Rattle.mm_tool.specs.Report.{IsMeant, IsObjectsOf, Means}

pub objects_built : (p : Program) (items : List Item) (objects : Objects) (output : List ℕ) → IsComplete p items → AreObjectsOf p (whole_crate p items ∷ []) objects → NumbersFit objects → output ≡ objects_text objects → IsObjectsOf p items output
objects_built p items objects output is are fit written =
    let text = have_text p items is objects are fit in
    record {
      objects = objects;
      are = are;
      text = record { text = record { are = text.0; is = written }; one_unit = text.1 };
      references = all_resolve p items objects (own_symbols p items is) is.uses are;
      runs = run_as p items is objects are;
    }

pub meant : (text : List ℕ) (p : Program) → Means text p → IsMeant p
meant text p means = record { text = text; means = means }
