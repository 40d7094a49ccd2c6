use Rattle.std.proofs.Common.{[], ap}
use Rattle.std.specs.List.{list_any}
use Rattle.std.specs.Str.{bytes_eq}
use Rattle.mm_resolve.proofs.names_seen.add_doubles.Goals as goal

pub returns : goal.returns
returns g c =
    c.in_ok-add_repeated.ensures.lines [] []
    (λ q. ap (λ keys. list_any (λ k. bytes_eq q k.now) keys) c.new-outside.ensures.empty)
    (λ q. ap (λ keys. list_any (λ k. bytes_eq q k.now) keys) c.new-seen.ensures.empty)
