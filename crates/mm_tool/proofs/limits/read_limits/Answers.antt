use Rattle.std.proofs.Common.{◌≡◌, ℕ, ◌+◌, List, [], map, take, drop, get_or, Bor, sym, subst, arith}
use Rattle.std.proofs.lemmas.List.{map_more, take_all}
use Rattle.mm_tool.specs.WordReading.{Give}
use Rattle.mm_tool.specs.Words.{AreLimits}
use Rattle.mm_tool.proofs.CommandLines.{added, refused, around}
use Rattle.mm_tool.proofs.limits.read_limits.Goals as goal

-- what stands for a word past the last
abbrev past : Bor (List ℕ)
past = record { ref_ptr = (0, 0); now = [] }

pub returns-in_err-given-clause-none : goal.returns-in_err-given-clause-none
returns-in_err-given-clause-none c none opts a =
    let options = c.args.options.now in
    let i = c.loop-word.word-index in
    refused c.loop-word.given (map (λ w. w.now) (take i options)) (map (λ w. w.now) (drop (i + 1) options)) (get_or options i past).now c.loop-word.invariant (c.in_err-given.ensures.none (cc)) opts (subst (λ words. AreLimits words opts) (around options i past (omega arith)) a)

pub loop-word-preserved : goal.loop-word-preserved
loop-word-preserved c =
    let options = c.args.options.now in
    let i = c.loop-word.word-index in
    let more = added c.loop-word.given c.in_ok-given.given (map (λ w. w.now) (take i options)) (get_or options i past).now c.loop-word.invariant c.in_ok-given.ensures.some in
    subst (λ words. Give words c.in_ok-given.given) (sym (map_more (λ w. w.now) options i past (omega arith))) more

pub returns-clause-some : goal.returns-clause-some
returns-clause-some c =
    let options = c.args.options.now in
    let all : take c.loop-word.word-index options ≡ options = take_all c.loop-word.word-index options (omega arith) in
    let gives : Give (map (λ w. w.now) options) c.loop-word.given = subst (λ words. Give (map (λ w. w.now) words) c.loop-word.given) all c.loop-word.invariant in record {
      length = c.loop-word.given.length;
      items = c.loop-word.given.items;
      any_order = gives.0;
      length_is = gives.1;
      items_is = gives.2;
      is = cc;
    }
