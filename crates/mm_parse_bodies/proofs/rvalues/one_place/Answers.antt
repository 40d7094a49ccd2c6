use Rattle.std.proofs.Common.{rules}
use Rattle.mm_parse_bodies.proofs.rvalues.one_place.Goals as goal

pub returns : goal.returns
returns c = let step = c.ended.ensures _ c.place.ensures in search rules
