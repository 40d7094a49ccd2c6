-- The words of a line as they are written one after the other.
use Rattle.std.specs.Prelude.{ℕ, List, [], ◌∷◌, ◌++◌, flat_map}
use Rattle.mm_objects.specs.ObjectText.{Line}

-- each word behind a blank
abbrev pub spaced : Line → List ℕ
spaced words = flat_map (λ word. 32 ∷ word) words

-- the first word, and then each other behind a blank
abbrev pub pieces : Line → List ℕ
pieces [] = []
pieces (word ∷ words) = word ++ spaced words
