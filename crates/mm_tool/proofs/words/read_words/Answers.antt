use Rattle.std.proofs.Common.{codes}
use Rattle.std.specs.Cmp.Lexicographic.{same_text}
use Rattle.mm_tool.proofs.CommandLines.{texts, verb_and_options, list_refused, build_refused, link_refused, fmt_refused}
use Rattle.mm_tool.proofs.words.read_words.Goals as goal

pub returns-in_err-read_limits-clause-none : goal.returns-in_err-read_limits-clause-none
returns-in_err-read_limits-clause-none c none =
    let options = c.in_ok-verb.options.now in
    let says = same_text c.in_ok-verb.verb.now.now (codes "list") c.if-eq.ensures in
    list_refused (texts c.args.words.now) (texts options) (verb_and_options (codes "list") c.args.words.now options c.in_ok-verb.verb.now c.in_ok-verb.ensures.cases.0 says) (c.read_limits.ensures.none c.in_err-read_limits.was)

pub returns-in_err-read_limits-2-clause-none : goal.returns-in_err-read_limits-2-clause-none
returns-in_err-read_limits-2-clause-none c none =
    let options = c.in_ok-verb.options.now in
    let says = same_text c.in_ok-verb.verb.now.now (codes "build") c.if-eq-2.ensures in
    build_refused (texts c.args.words.now) (texts options) (verb_and_options (codes "build") c.args.words.now options c.in_ok-verb.verb.now c.in_ok-verb.ensures.cases.0 says) (c.read_limits-then-eq-2.ensures.none c.in_err-read_limits-2.was)

pub returns-in_err-read_steps-clause-none : goal.returns-in_err-read_steps-clause-none
returns-in_err-read_steps-clause-none c none =
    let options = c.in_ok-verb.options.now in
    let says = same_text c.in_ok-verb.verb.now.now (codes "link") c.if-eq-3.ensures in
    link_refused (texts c.args.words.now) (texts options) (verb_and_options (codes "link") c.args.words.now options c.in_ok-verb.verb.now c.in_ok-verb.ensures.cases.0 says) (c.read_steps.ensures.none c.in_err-read_steps.was)

pub returns-in_err-read_none-clause-none : goal.returns-in_err-read_none-clause-none
returns-in_err-read_none-clause-none c none =
    let options = c.in_ok-verb.options.now in
    let says = same_text c.in_ok-verb.verb.now.now (codes "fmt") c.if-eq-4.ensures in
    fmt_refused (texts c.args.words.now) (texts options) (verb_and_options (codes "fmt") c.args.words.now options c.in_ok-verb.verb.now c.in_ok-verb.ensures.cases.0 says) (c.read_none.ensures.none c.in_err-read_none.was)
