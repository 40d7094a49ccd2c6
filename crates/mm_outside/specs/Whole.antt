-- What a whole read takes from a source, and a whole write hands to a sink.
use Rattle.std.specs.Prelude.{ℕ, ◌≡◌, ◌+◌, ◌≤◌, List, length, ◌++◌}
use Rattle.std.specs.declared.option.Option.{Option}
use Rattle.std.specs.Io.KnownBytes.{Appends, Consumes, IsAtEnd}

-- these bytes are all that was left, no more than the limit, and the source is at its end
pub record ReadsWhole (limit : ℕ) (old new : Option (List ℕ)) (bytes : List ℕ) : Type 0 where
  pub fits : length bytes ≤ limit
  pub took : Consumes old new bytes
  pub end : IsAtEnd new

-- the source gave the byte after the limit, and no more
abbrev pub GaveMore : ℕ → Option (List ℕ) → Option (List ℕ) → Type 0
GaveMore limit old new = (given : List ℕ) × (length given ≡ limit + 1) × Consumes old new given

-- the source gave no byte past the limit
abbrev pub GaveWithin : ℕ → Option (List ℕ) → Option (List ℕ) → Type 0
GaveWithin limit old new = (given : List ℕ) × (length given ≤ limit) × Consumes old new given

-- a prefix of the bytes was written
abbrev pub WritesPrefix : Option (List ℕ) → Option (List ℕ) → List ℕ → Type 0
WritesPrefix old new bytes = (prefix : List ℕ) × (rest : List ℕ) × (bytes ≡ prefix ++ rest) × Appends old new prefix
