use Rattle.mm_symbols.proofs.InstanceItems.{instance_is_item}
use Rattle.mm_symbols.proofs.instances.instances_are_items.Goals as goal

pub returns : goal.returns
returns c = instance_is_item
