use Rattle.std.proofs.Common.{◌≡◌, ◌++◌, map, drop}
use Rattle.std.specs.List.{enumerate_from}
use Rattle.mm_definitions.specs.Definitions.{method_named}
use Rattle.mm_definitions.proofs.form_names.add_methods.Given as goal

-- what is defined, and the methods that are left, are all methods
abbrev pub invariant-loop-place : goal.invariant-loop-place
invariant-loop-place l =
    l.out ++ map (method_named l.site.number l.site.prefix.now l.site.is_pub) (enumerate_from l.place (drop l.place l.methods))
    ≡ l.fn.out ++ map (method_named l.site.number l.site.prefix.now l.site.is_pub) (enumerate_from 0 l.methods)
