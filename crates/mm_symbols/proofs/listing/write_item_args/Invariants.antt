use Rattle.std.proofs.Common.{◌≡◌, ◌++◌, map, drop, codes}
use Rattle.std.specs.List.{flat_map}
use Rattle.mm_symbols.specs.TypeText.{type_text}
use Rattle.mm_symbols.specs.Listing.{item_args_text}
use Rattle.mm_symbols.proofs.listing.write_item_args.Given as goal

-- what is written, and the types that are left, is all of the arguments
abbrev pub invariant-loop-ty : goal.invariant-loop-ty
invariant-loop-ty l = l.out.items ++ flat_map (λ next. codes ", " ++ next) (map (type_text l.p) (drop l.ty-index l.others)) ++ codes ">" ≡ l.fn.out.items ++ item_args_text (map (type_text l.p) l.args)
