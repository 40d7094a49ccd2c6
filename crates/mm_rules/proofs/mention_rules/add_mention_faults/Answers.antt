use Rattle.std.proofs.Common.{◌++◌, sym, ◌∙◌, ap}
use Rattle.std.proofs.lemmas.List.{append-nil, take_all}
use Rattle.mm_rules.specs.MentionRules.{at_line, broken, faults_in}
use Rattle.mm_rules.proofs.FaultLemmas.{flat_map-more}
use Rattle.mm_rules.proofs.mention_rules.add_mention_faults.Goals as goal

pub loop-mention-init : goal.loop-mention-init
unfolding faults_in
loop-mention-init c = λ seen knows. sym (append-nil c.args.faults.now)

pub loop-mention-preserved : goal.loop-mention-preserved
unfolding faults_in
loop-mention-preserved c = λ seen knows.
    flat_map-more (λ m. at_line m.line (broken seen m.what)) c.args.mentions.now c.loop-mention.mention-index c.mention-item.result c.args.faults.now c.loop-mention.faults c.add_faults.new.faults
    c.loop-mention-test.true c.mention-item.is (c.loop-mention.invariant seen knows) (c.in_ok-add_faults.ensures seen knows)

pub returns : goal.returns
returns c = λ seen knows.
    c.loop-mention.invariant seen knows ∙ ap (λ ms. c.args.faults.now ++ faults_in seen ms) (take_all c.loop-mention.mention-index c.args.mentions.now c.loop-mention-test.false)
