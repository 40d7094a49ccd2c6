-- Positions in a text.
use Rattle.std.specs.Prelude.{ℕ, ◌+◌, ◌==◌, List, if◌then◌else◌, fold}
use Rattle.std.specs.Char.{len_utf8}
use Rattle.std.specs.Str.{chars}
use Rattle.mm_lex.specs.declared.position.Position.{Position}

-- the position where a text begins
abbrev pub text_start : Position
text_start = record { offset = 0; line = 1; column = 1 }

-- the position behind a character: the next column, and behind LF the next line
abbrev pub past : Position → ℕ → Position
past at c =
    if c == 10 then record { offset = at.offset + len_utf8 c; line = at.line + 1; column = 1 }
    else record { offset = at.offset + len_utf8 c; line = at.line; column = at.column + 1 }

-- the position behind the last character of a text, by its bytes
abbrev pub end_position : List ℕ → Position
end_position text = fold past text_start (chars text)
