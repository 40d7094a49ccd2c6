use Rattle.std.proofs.Common.{rules, is_lt}
use Rattle.std.specs.Cmp.Lexicographic.{slice_cmp}
use Rattle.std.specs.Ordering.{nat_cmp}
use Rattle.std.proofs.lemmas.Cmp.{nat_list_cmp_total}
use Rattle.std.proofs.lemmas.Fn.{always_returns_same}
use Rattle.std.proofs.lemmas.List.MinMax.{ranks_by}
use Rattle.std.proofs.lemmas.Result.{on_ok_weaker}
use Rattle.mm_objects.specs.Resolution.{symbol_of}
use Rattle.mm_emit.proofs.emission.sort.Goals as goal

pub returns-clause-sorted : goal.returns-clause-sorted
returns-clause-sorted c =
    on_ok_weaker c.sort_by.result
    (λ sorted. sorted (λ a b. is_lt (slice_cmp nat_cmp (symbol_of a) (symbol_of b))) (ranks_by nat_list_cmp_total symbol_of) (always_returns_same _ _ _ (λ a r f k. search rules)))
    c.sort_by.ensures.sorted
