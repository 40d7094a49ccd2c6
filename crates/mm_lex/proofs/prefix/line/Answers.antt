use Rattle.std.proofs.Common.{◌≡◌, take, subst, ◌∙◌}
use Rattle.std.specs.Str.{chars}
use Rattle.mm_lex.specs.FirstPieces.{front}
use Rattle.std.specs.Str.Pattern.{FindsChar}
use Rattle.mm_lex.specs.Pieces.{is_within_line}
use Rattle.mm_lex.proofs.Fronts.{IsFront, slice_from_start, front_found, finds_line_end}
use Rattle.mm_lex.proofs.prefix.line.Goals as goal
use Rattle.mm_lex.proofs.prefix.line.Goals.{After-find}

found : (c : After-find) → IsFront is_within_line c.args.text.now c.find.result
found c = front_found (FindsChar 10) is_within_line c.args.text.now c.find.result c.utf8.text (finds_line_end c.args.text.now) c.find.ensures.cases

pub returns-in-Some : goal.returns-in-Some
returns-in-Some c =
    let is : take c.in-Some.len c.args.text.now ≡ front is_within_line (chars c.args.text.now) =
    subst (IsFront is_within_line c.args.text.now) c.in-Some.is (found (goal.at.returns-in-Some c).After-find) in
    c.range.ensures.value ∙ slice_from_start c.args.text.now c.in-Some.len ∙ is

pub returns-in-None : goal.returns-in-None
returns-in-None c = subst (IsFront is_within_line c.args.text.now) c.in-None.is (found (goal.at.returns-in-None c).After-find)
