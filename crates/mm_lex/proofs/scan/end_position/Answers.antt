use Rattle.std.proofs.Common.{List, ℕ, sym, ap, ◌∙◌}
use Rattle.std.specs.Prelude.{fold}
use Rattle.std.specs.Str.{chars}
use Rattle.mm_lex.specs.Positions.{past, text_start}
use Rattle.mm_lex.proofs.Scanning.{whole_front}
use Rattle.mm_lex.proofs.scan.end_position.Goals as goal

pub returns : goal.returns
returns c =
    c.after.ensures.position
    ∙ ap (λ (bs : List ℕ). fold past text_start (chars bs)) (c.valid_front.ensures.value ∙ sym (whole_front c.args.text.now c.requires.utf8))
