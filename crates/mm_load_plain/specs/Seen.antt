-- What contracts see of the functions that a crate is flattened to: what is referred to, and not where it lies.
use Rattle.mm_load_plain.specs.declared.functions.Defined as defined
use Rattle.mm_load_plain.specs.WrittenItem.{Defined}

abbrev pub function_seen : defined.Defined → Defined
function_seen d = record { path = d.path; line = d.line; is_pub = d.is_pub; function = d.function.now }
