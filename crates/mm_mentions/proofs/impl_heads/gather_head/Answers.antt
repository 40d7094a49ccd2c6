use Rattle.std.proofs.Common.{◌||◌, sym, ◌∙◌, ap}
use Rattle.std.specs.List.{list_any}
use Rattle.std.specs.Str.{bytes_eq}
use Rattle.mm_mentions.specs.ImplHeads.{is_param_head}
use Rattle.mm_mentions.specs.Seen.{names_of}
use Rattle.mm_mentions.proofs.ScopeLemmas.{inserted}
use Rattle.mm_mentions.proofs.impl_heads.gather_head.Goals as goal

pub returns : goal.returns
returns c q =
    ap (λ ks. list_any (λ k. bytes_eq q k.now) ks) c.in_ok-insert.ensures.keys
    ∙ inserted c.args.names.now.keys c.as_slice.result q
    ∙ ap (λ b. names_of c.args.names.now q || b) (ap (bytes_eq q) c.as_slice.ensures ∙ sym (ap (is_param_head q) c.in-Param.is))
