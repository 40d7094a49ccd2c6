-- No two of complete items have one symbol.
use Rattle.std.proofs.Common.{List}
use Rattle.std.specs.Prelude.{Contains}
use Rattle.std.proofs.lemmas.List.Elements.{All-contains}
use Rattle.mm_terms.specs.declared.item.Item.{Item}
use Rattle.mm_plain.specs.declared.program.Program.{Program}
use Rattle.mm_plain.specs.WellFormed.{IsInstanceIn}
use Rattle.mm_symbols.specs.ItemForms.{IsItemIn}
use Rattle.mm_symbols.proofs.InstanceItems.{instance_is_item}
use Rattle.mm_symbols.proofs.ItemLaws.{item_reported}
use Rattle.mm_objects.specs.Emitted.{HaveOwnSymbols}
use Rattle.mm_emit.specs.Complete.{IsComplete}

pub own_symbols : (p : Program) (items : List Item) → IsComplete p items → HaveOwnSymbols p items
own_symbols p items is x y inside there same =
    let item : (z : Item) → Contains items z → IsItemIn p z = λ z here. instance_is_item p z (All-contains (IsInstanceIn p) items z is.instances here) in
    item_reported p is.names x y (item x inside) (item y there) same
