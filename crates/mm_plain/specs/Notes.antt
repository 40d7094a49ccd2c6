-- The order of notes of what is too long, and the least of several.
use Rattle.std.specs.Prelude.{◌≡◌, ◌≢◌, List, [], Option, None, Some, All, Contains}
use Rattle.std.specs.Cmp.Lexicographic.{slice_cmp}
use Rattle.std.specs.declared.cmp.Ordering.{Ordering}
use Rattle.std.specs.declared.cmp.Ordering.TheVariants.{Less}
use Rattle.std.specs.Ordering.{nat_cmp, on, then_cmp}
use Rattle.mm_plain.specs.declared.over.Over.{Over}

-- by the bytes of the paths, and then by the lengths
unfoldable pub note_cmp : Over → Over → Ordering
note_cmp = then_cmp (on (λ note. note.path) (slice_cmp nat_cmp)) (on (λ note. note.length) nat_cmp)

-- the least of the notes, or none where there are none
abbrev pub IsLeast : List Over → Option Over → Type 0
IsLeast notes None = notes ≡ []
IsLeast notes (Some least) = Contains notes least × All (λ note. note_cmp note least ≢ Less) notes
