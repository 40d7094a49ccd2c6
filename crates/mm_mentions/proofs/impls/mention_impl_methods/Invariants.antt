use Rattle.std.proofs.Common.{◌≡◌, ◌++◌, take}
use Rattle.std.specs.List.{flat_map}
use Rattle.mm_mentions.specs.ImplMentions.{impl_method_mentions}
use Rattle.mm_mentions.specs.Seen.{names_of}
use Rattle.mm_mentions.proofs.impls.mention_impl_methods.Given as goal

abbrev pub invariant-loop-method : goal.invariant-loop-method
invariant-loop-method l = l.out.items ≡ l.fn.out.items ++ flat_map (impl_method_mentions (names_of l.outer) l.tr) (take l.method-index l.methods)
