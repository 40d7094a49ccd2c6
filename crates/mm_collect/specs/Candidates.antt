-- What is said of a candidate once its length is known.
use Rattle.std.specs.Prelude.{◌≡◌, ℕ, true, false}
use Rattle.mm_terms.specs.declared.item.Item.{Item}
use Rattle.mm_plain.specs.declared.program.Program.{Program}
use Rattle.mm_collect.specs.declared.uses.Candidate.{Candidate}
use Rattle.mm_collect.specs.declared.uses.Candidate.TheVariants as candidate
use Rattle.mm_plain.specs.Uses.{is_within, note_of}

-- x itself where it is within the limit, and else its note
abbrev pub Judges : Program → ℕ → Item → Candidate → Type 0
Judges p limit x (candidate.Within item) = (is_within limit x ≡ true) × (item ≡ x)
Judges p limit x (candidate.Over note) = (is_within limit x ≡ false) × (note ≡ note_of p x)
