-- What can be counted in 32 bits: the definitions of a program, its modules, and the bytes of each module and each path.
use Rattle.std.specs.Prelude.{◌&&◌, Bool, List}
use Rattle.std.specs.List.{list_all}
use Rattle.mm_program.specs.declared.parts.Parts.{Parts}
use Rattle.mm_written.specs.Lists.{few}

unfoldable pub is_counted : Parts → Bool
is_counted p = few p.defs && few p.modules && list_all few p.modules && list_all (λ part. few part.path) p.defs
