use Rattle.std.proofs.Common.{ap, ◌∙◌, arith}
use Rattle.std.specs.List.{list_any}
use Rattle.std.specs.Str.{bytes_eq}
use Rattle.mm_mentions.specs.Seen.{names_of}
use Rattle.mm_mentions.proofs.ScopeLemmas.{inserted, param_more, param_all}
use Rattle.mm_mentions.proofs.scope.param_names.Goals as goal

pub loop-param-preserved : goal.loop-param-preserved
loop-param-preserved c q =
    let keys = c.loop-param.set.keys in
    let key = c.as_slice.result in
    ap (λ ks. list_any (λ k. bytes_eq q k.now) ks) c.in_ok-insert.ensures.keys
    ∙ inserted keys key q
    ∙ param_more c.args.params.now c.loop-param.param-index c.param-item.result q key.now (names_of c.loop-param.set q) (c.loop-param.invariant q) c.loop-param-test.true c.param-item.is c.as_slice.ensures

pub returns : goal.returns
returns c = param_all c.args.params.now c.loop-param.param-index (names_of c.loop-param.set) c.loop-param.invariant (omega arith)
