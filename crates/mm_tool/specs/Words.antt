-- The words after the program's name: a command, and then its options in any order, each at most once.
use Rattle.std.specs.Prelude.{◌≡◌, ℕ, ◌≤◌, List, [], ◌∷◌, ◌++◌, Some, None, IfSome, IsPermutation, unwrap_or, codes, decimal}
use Rattle.std.specs.declared.option.Option.{Option}
use Rattle.mm_plain.specs.declared.program.Opts.{Opts}
use Rattle.mm_tool.specs.declared.words.Command.{Command}
use Rattle.mm_tool.specs.declared.words.Command.TheVariants as command

-- an option that is given, as a word: its name, and its number in decimal digits
abbrev pub option_word : List ℕ → Option ℕ → List (List ℕ)
option_word name None = []
option_word name (Some n) = (name ++ decimal n) ∷ []

-- the words of the limits that are given
abbrev pub option_words : Option ℕ → Option ℕ → List (List ℕ)
option_words length items = option_word (codes "--length=") length ++ option_word (codes "--items=") items

-- a number that is given is one from 1 to the greatest
abbrev pub IsUpTo : ℕ → Option ℕ → Type 0
IsUpTo most given = IfSome given (λ n. (1 ≤ n) × (n ≤ most))

-- the options of a collection: limits on lengths and on items. What no option gives is the default
pub record AreLimits (options : List (List ℕ)) (opts : Opts) : Type 0 where
  pub length : Option ℕ
  pub items : Option ℕ
  pub any_order : IsPermutation (option_words length items) options
  pub length_is : IsUpTo 2048 length
  pub items_is : IsUpTo 131072 items
  pub is : opts ≡ record { length = unwrap_or length 512; items = unwrap_or items 20000 }

-- the option of a run: the greatest number of its steps, or else the default
pub record AreSteps (options : List (List ℕ)) (steps : ℕ) : Type 0 where
  pub given : Option ℕ
  pub are : options ≡ option_word (codes "--steps=") given
  pub within : IfSome given (λ n. n ≤ 10000000)
  pub is : steps ≡ unwrap_or given 1000000

-- words = "list" limits | "build" limits | "link" steps | "fmt"
abbrev pub AreWords : List (List ℕ) → Command → Type 0
AreWords words (command.List opts) = (options : List (List ℕ)) × (words ≡ codes "list" ∷ options) × AreLimits options opts
AreWords words (command.Build opts) = (options : List (List ℕ)) × (words ≡ codes "build" ∷ options) × AreLimits options opts
AreWords words (command.Link steps) = (options : List (List ℕ)) × (words ≡ codes "link" ∷ options) × AreSteps options steps
AreWords words command.Fmt = (options : List (List ℕ)) × (words ≡ codes "fmt" ∷ options) × (options ≡ [])

abbrev pub IsCommand : List (List ℕ) → Type 0
IsCommand words = (command : Command) × AreWords words command

-- some words mean the command
abbrev pub IsWorded : Command → Type 0
IsWorded command = (words : List (List ℕ)) × AreWords words command

abbrev pub IsNoCommand : List (List ℕ) → Type 0
IsNoCommand words = (command : Command) → AreWords words command → ⊥

-- the greatest text that is read for a command, in bytes
abbrev pub text_limit : Command → ℕ
text_limit (command.List opts) = 4194304
text_limit (command.Build opts) = 4194304
text_limit (command.Link steps) = 67108864
text_limit command.Fmt = 4194304
