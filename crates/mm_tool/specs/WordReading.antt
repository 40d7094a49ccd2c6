-- The words, as they are read one by one.
use Rattle.std.specs.Prelude.{◌≡◌, ℕ, ◌≤◌, ◌⊎◌, List, ◌++◌, Some, None, IsPermutation, codes, decimal}
use Rattle.mm_tool.specs.declared.limits.Given.{Given}
use Rattle.mm_tool.specs.Words.{option_words, IsUpTo}

-- the digits write the number, which is one from 1 to the greatest
abbrev pub IsNumber : ℕ → List ℕ → ℕ → Type 0
IsNumber most digits n = (digits ≡ decimal n) × (1 ≤ n) × (n ≤ most)

-- the digits write the number, which is one from 0 to the greatest
abbrev pub IsCount : ℕ → List ℕ → ℕ → Type 0
IsCount most digits n = (digits ≡ decimal n) × (n ≤ most)

-- the word is the option with this name and this number, from 1 to the greatest
abbrev pub IsOption : List ℕ → ℕ → List ℕ → ℕ → Type 0
IsOption name most word n = (word ≡ name ++ decimal n) × (1 ≤ n) × (n ≤ most)

-- the word is an option that was not given before
abbrev pub Adds : Given → List ℕ → Given → Type 0
Adds given word more =
    ((n : ℕ) × IsOption (codes "--length=") 2048 word n × (given.length ≡ None) × (more ≡ record { length = Some n; items = given.items }))
    ⊎ ((n : ℕ) × IsOption (codes "--items=") 131072 word n × (given.items ≡ None) × (more ≡ record { length = given.length; items = Some n }))

-- the words give these options
abbrev pub Give : List (List ℕ) → Given → Type 0
Give words given = IsPermutation (option_words given.length given.items) words × IsUpTo 2048 given.length × IsUpTo 131072 given.items
