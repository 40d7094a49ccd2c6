use Rattle.std.proofs.Common.{◌≡◌, ◌∙◌, length, leb, sym, ap}
use Rattle.mm_names.specs.declared.run.Run.TheVariants as runs
use Rattle.mm_names.specs.Runs.{word_in, word_or_name}
use Rattle.mm_names.proofs.Numerals.{then_some-cond}
use Rattle.mm_names.proofs.WordSpellings.{word_in_is}
use Rattle.mm_names.proofs.run.word_or_name.Goals as goal
use Rattle.mm_names.proofs.run.word_or_name.Goals.{After-from_bytes}

-- the word is that of the bytes
read : (c : After-from_bytes) → c.from_bytes.result ≡ word_in c.args.bytes.now
read c = word_in_is c.args.bytes.now c.from_bytes.result c.from_bytes.ensures.some c.from_bytes.ensures.none

pub returns-in-Some : goal.returns-in-Some
returns-in-Some c = ap (λ r. word_or_name r c.args.bytes.now) (sym c.in-Some.is ∙ read (goal.at.returns-in-Some c).After-from_bytes)

pub returns-in-None : goal.returns-in-None
returns-in-None c =
    c.then_some.ensures
    ∙ sym (then_some-cond (leb (length c.args.bytes.now) 255) runs.Name)
    ∙ ap (λ r. word_or_name r c.args.bytes.now) (sym c.in-None.is ∙ read (goal.at.returns-in-None c).After-from_bytes)
