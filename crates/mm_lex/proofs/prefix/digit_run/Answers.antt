use Rattle.std.proofs.Common.{rules, ◌≡◌, take, subst, ◌∙◌}
use Rattle.std.specs.Str.{chars}
use Rattle.mm_lex.specs.FirstPieces.{front}
use Rattle.std.proofs.lemmas.Fn.{always_returns_same}
use Rattle.std.specs.Char.{is_ascii_digit}
use Rattle.mm_lex.proofs.Fronts.{IsFront, slice_from_start, front_by}
use Rattle.mm_lex.proofs.prefix.digit_run.Goals as goal
use Rattle.mm_lex.proofs.prefix.digit_run.Goals.{After-find}

found : (c : After-find) → IsFront is_ascii_digit c.args.text.now c.find.result
found c = front_by _ is_ascii_digit c.args.text.now c.find.result c.utf8.text c.find.ensures.cases (always_returns_same _ _ _ (λ a r f k. search rules))

pub returns-in-Some : goal.returns-in-Some
returns-in-Some c =
    let is : take c.in-Some.len c.args.text.now ≡ front is_ascii_digit (chars c.args.text.now) =
    subst (IsFront is_ascii_digit c.args.text.now) c.in-Some.is (found (goal.at.returns-in-Some c).After-find) in
    c.range.ensures.value ∙ slice_from_start c.args.text.now c.in-Some.len ∙ is

pub returns-in-None : goal.returns-in-None
returns-in-None c = subst (IsFront is_ascii_digit c.args.text.now) c.in-None.is (found (goal.at.returns-in-None c).After-find)
