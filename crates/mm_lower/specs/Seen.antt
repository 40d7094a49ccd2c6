-- What contracts see of the tables by which names are looked up.
use Rattle.mm_resolve.specs.Scopes.{leading}
use Rattle.mm_lower.specs.declared.names.Names.{Names}
use Rattle.mm_lower.specs.Params.{Params, look_up}
use Rattle.mm_lower.specs.Paths.{Paths}

abbrev pub paths : Names → Paths
paths names = leading names.scope.now

abbrev pub params : Names → Params
params names = look_up names.params.now
