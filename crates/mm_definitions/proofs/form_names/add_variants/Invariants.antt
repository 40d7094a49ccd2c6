use Rattle.std.proofs.Common.{◌≡◌, ◌++◌, map, drop}
use Rattle.std.specs.List.{enumerate_from}
use Rattle.mm_definitions.specs.Definitions.{variant_named}
use Rattle.mm_definitions.proofs.form_names.add_variants.Given as goal

-- what is defined, and the variants that are left, are all variants
abbrev pub invariant-loop-place : goal.invariant-loop-place
invariant-loop-place l =
    l.out ++ map (variant_named l.site.number l.site.prefix.now l.site.is_pub) (enumerate_from l.place (drop l.place l.variants))
    ≡ l.fn.out ++ map (variant_named l.site.number l.site.prefix.now l.site.is_pub) (enumerate_from 0 l.variants)
