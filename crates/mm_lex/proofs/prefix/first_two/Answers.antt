use Rattle.std.proofs.Common.{ℕ, Option, ap, sym, ◌∙◌, subst, IsUtf8}
use Rattle.std.specs.Option.{unwrap_or}
use Rattle.std.specs.Str.{chars}
use Rattle.std.specs.Str.Iter.{chars_rest}
use Rattle.std.specs.Prelude.{List, slice_index}
use Rattle.mm_lex.proofs.Fronts.{next_char, get_index}
use Rattle.mm_lex.proofs.prefix.first_two.Goals as goal

pub returns-clause-second : goal.returns-clause-second
returns-clause-second c =
    let rest = c.chars-chars.ensures.rest in
    c.unwrap_or-second.ensures
    ∙ ap (λ (o : Option ℕ). unwrap_or o 0) c.next-2.ensures.steps.2
    ∙ get_index (chars (chars_rest c.next.new.self))
    ∙ next_char chars_rest c.chars-chars.result c.next.new.self c.next.result (subst IsUtf8 (sym rest) c.utf8.text) c.next.ensures.steps.0
    ∙ ap (λ (bs : List ℕ). slice_index (chars bs) 1) rest
