-- The verdict on a program under the limits on lengths and on items. It is the first of these that holds:
--     there are more members than the limit
--     a member notes an instance that is too long; the least of the notes is reported
--     the members are listed
use Rattle.std.specs.Prelude.{◌≢◌, ℕ, ◌≤◌, List, length, Contains}
use Rattle.std.specs.declared.cmp.Ordering.TheVariants.{Less}
use Rattle.mm_terms.specs.declared.item.Item.{Item}
use Rattle.mm_terms.specs.Closure.{IsMember, AreMembers, HasMoreThan}
use Rattle.mm_plain.specs.declared.over.Over.{Over}
use Rattle.mm_plain.specs.declared.program.Opts.{Opts}
use Rattle.mm_plain.specs.declared.program.Program.{Program}
use Rattle.mm_plain.specs.Notes.{note_cmp}
use Rattle.mm_plain.specs.Roots.{roots_of}
use Rattle.mm_plain.specs.Uses.{uses_of, notes_of}

-- a path and a length as a note
abbrev pub over : List ℕ → ℕ → Over
over path n = record { path = path; length = n }

-- some member notes it
abbrev pub IsNoted : Program → ℕ → Over → Type 0
IsNoted p limit note = (x : Item) × IsMember (roots_of p) (uses_of p limit) x × Contains (notes_of p limit x) note

-- the program has more members than the limit
abbrev pub IsTooMany : Program → Opts → Type 0
IsTooMany p opts = HasMoreThan (roots_of p) (uses_of p opts.length) opts.items

-- the members are within the limit, and of what they note the least is the path with the length n
pub record IsTooLong (p : Program) (opts : Opts) (path : List ℕ) (n : ℕ) : Type 0 where
  pub items : List Item
  pub members : AreMembers (roots_of p) (uses_of p opts.length) items
  pub within : length items ≤ opts.items
  pub noted : IsNoted p opts.length (over path n)
  pub least : (other : Over) → IsNoted p opts.length other → note_cmp other (over path n) ≢ Less

-- these are the members, they are within the limit, and none of them notes anything
pub record IsAccepted (p : Program) (opts : Opts) (items : List Item) : Type 0 where
  pub members : AreMembers (roots_of p) (uses_of p opts.length) items
  pub within : length items ≤ opts.items
  pub none : (note : Over) → IsNoted p opts.length note → ⊥
