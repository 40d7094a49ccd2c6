-- The answer to a command line and a text: the status, and the bytes that are written.
use Rattle.std.specs.Prelude.{◌≡◌, ◌≢◌, ℕ, ◌⊎◌, List, [], ◌∷◌, ◌++◌, Err, codes, decimal}
use Rattle.std.specs.declared.option.Option.{Option}
use Rattle.std.specs.Io.KnownBytes.{Appends}
use Rattle.mm_outside.specs.Whole.{WritesPrefix}
use Rattle.mm_terms.specs.declared.item.Item.{Item}
use Rattle.mm_plain.specs.declared.program.Program.{Program}
use Rattle.mm_plain.specs.declared.program.Opts.{Opts}
use Rattle.mm_collect.specs.declared.fault.CollectFault.{CollectFault}
use Rattle.mm_collect.specs.declared.fault.CollectFault.TheVariants as fault
use Rattle.mm_plain.specs.Verdict.{IsAccepted, IsTooMany, IsTooLong}
use Rattle.mm_ast.specs.declared.items.Ast.{Ast}
use Rattle.mm_lex.specs.declared.token.Token.{Token}
use Rattle.mm_objects.specs.declared.objects.Objects.{Objects}
use Rattle.mm_objects.specs.Emitted.{AllResolve, AreObjectsOf, whole_crate}
use Rattle.mm_objects.specs.ObjectForms.{IsUnitText}
use Rattle.mm_emit.specs.Faithful.{RunAs}
use Rattle.mm_machines.specs.Image.{observed_image}
use Rattle.mm_link.specs.declared.fault.LinkFault.{LinkFault}
use Rattle.mm_link.specs.declared.fault.LinkFault.TheVariants as unlinked
use Rattle.mm_objects.specs.declared.target.Linked.{Linked}
use Rattle.mm_link.specs.Linking as linking
use Rattle.mm_objects.specs.Linking.{IsLinked}
use Rattle.mm_tool.specs.declared.answer.Product.{Product}
use Rattle.mm_tool.specs.declared.answer.Product.TheVariants as product
use Rattle.mm_tool.specs.declared.words.Command.{Command}
use Rattle.mm_tool.specs.declared.words.Command.TheVariants as command
use Rattle.mm_lex.specs.Lexemes.{lexemes}
use Rattle.mm_lex.specs.Tokens.{AreTokensOf}
use Rattle.mm_grammar.specs.Reading.{IsText}
use Rattle.mm_load_plain.specs.Meaning.{IsProgram}
use Rattle.mm_symbols.specs.Listing.{IsListing}
use Rattle.mm_tool.specs.Observed.{obs_text, obs_status}
use Rattle.mm_tool.specs.Formatting.{IsFormat}
use Rattle.mm_tool.specs.Words.{AreWords, IsNoCommand}

-- A text means a program: its tokens spell a tree, and the tree means the program.
pub record Means (text : List ℕ) (program : Program) : Type 0 where
  pub tokens : List Token
  pub lexed : AreTokensOf text tokens
  pub tree : Ast
  pub spelled : IsText tree (lexemes text tokens)
  pub loaded : IsProgram tree program

-- some text means the program
pub record IsMeant (program : Program) : Type 0 where
  pub text : List ℕ
  pub means : Means text program

-- a line for a person, ended by LF
abbrev pub line : List ℕ → List ℕ
line text = text ++ 10 ∷ []

-- The output is the text of objects of the items, in one unit. Each reference in them names a definition of the item that
-- is used there. They are linked, and after any number of steps what is seen of their image is what is seen of the program
pub record IsObjectsOf (p : Program) (items : List Item) (output : List ℕ) : Type 0 where
  pub objects : Objects
  pub are : AreObjectsOf p (whole_crate p items ∷ []) objects
  pub text : IsUnitText output objects
  pub references : AllResolve p items objects.units
  pub runs : RunAs p objects

-- what is written of the items of a program
abbrev pub Shows : Product → Program → List Item → List ℕ → Type 0
Shows product.Listing = IsListing
Shows product.Objects = IsObjectsOf

-- the program is within the limits: what is asked for is written of its items
pub record IsShown (product : Product) (p : Program) (opts : Opts) (status : ℕ) (output : List ℕ) : Type 0 where
  pub status_is : status ≡ 0
  pub items : List Item
  pub accepted : IsAccepted p opts items
  pub shown : Shows product p items output

-- it has more items than the limit
pub record SaysTooMany (p : Program) (opts : Opts) (status : ℕ) (output : List ℕ) : Type 0 where
  pub status_is : status ≡ 5
  pub many : IsTooMany p opts
  pub output_is : output ≡ line (codes "error: more than " ++ decimal opts.items ++ codes " items in crate " ++ p.krate)

-- it needs an instance of this path that has length n, which is past the limit
pub record SaysTooLong (p : Program) (opts : Opts) (status : ℕ) (output : List ℕ) : Type 0 where
  pub status_is : status ≡ 6
  pub path : List ℕ
  pub n : ℕ
  pub long : IsTooLong p opts path n
  pub output_is : output ≡ line (codes "error: type length " ++ decimal n ++ codes " in " ++ path)

-- what is reported of a fault of collection
abbrev pub Tells : Program → CollectFault → ℕ → List ℕ → Type 0
Tells p (fault.TooMany n) status output = (status ≡ 5) × (output ≡ line (codes "error: more than " ++ decimal n ++ codes " items in crate " ++ p.krate))
Tells p (fault.TypeLength path n) status output = (status ≡ 6) × (output ≡ line (codes "error: type length " ++ decimal n ++ codes " in " ++ path))
Tells p (fault.NoImpl text) status output = ⊥
Tells p fault.NoMemory status output = ⊥

-- the verdict on a program
abbrev pub IsVerdict : Product → Program → Opts → ℕ → List ℕ → Type 0
IsVerdict product p opts status output = IsShown product p opts status output ⊎ SaysTooMany p opts status output ⊎ SaysTooLong p opts status output

-- the text means no program
pub record IsBadText (text : List ℕ) (status : ℕ) (output : List ℕ) : Type 0 where
  pub status_is : status ≡ 3
  pub none : (p : Program) → Means text p → ⊥
  pub output_is : output ≡ line (codes "error: bad text")

-- the text means a program, and this is the verdict on it
pub record IsJudged (product : Product) (text : List ℕ) (opts : Opts) (status : ℕ) (output : List ℕ) : Type 0 where
  pub program : Program
  pub means : Means text program
  pub verdict : IsVerdict product program opts status output

-- the answer to a text of which a product is asked
abbrev pub IsAnswer : Product → List ℕ → Opts → ℕ → List ℕ → Type 0
IsAnswer product text opts status output = IsJudged product text opts status output ⊎ IsBadText text status output

-- ---- objects that are linked and run

-- what is reported of a fault of linking
abbrev pub TellsUnlinked : LinkFault → List ℕ → Type 0
TellsUnlinked (unlinked.Double symbol first second) output = output ≡ line (codes "error: symbol " ++ symbol ++ codes " defined twice, in " ++ first ++ codes " and " ++ second)
TellsUnlinked (unlinked.Undefined unit symbol) output = output ≡ line (codes "error: undefined symbol " ++ symbol ++ codes " in unit " ++ unit)
TellsUnlinked unlinked.NoMain output = output ≡ line (codes "error: no main")
TellsUnlinked unlinked.NoMemory output = ⊥

-- the objects are not linked
pub record IsUnlinked (objects : Objects) (status : ℕ) (output : List ℕ) : Type 0 where
  pub status_is : status ≡ 9
  pub fault : LinkFault
  pub verdict : linking.IsVerdict objects (Err fault)
  pub reported : TellsUnlinked fault output

-- the objects are linked, and what is seen of their run for so many steps is reported
pub record IsObserved (objects : Objects) (steps status : ℕ) (output : List ℕ) : Type 0 where
  pub image : Linked
  pub linked : IsLinked objects image
  pub status_is : status ≡ obs_status (observed_image image.objects.units image.main steps).ended
  pub output_is : output ≡ obs_text (observed_image image.objects.units image.main steps)

abbrev pub IsRun : Objects → ℕ → ℕ → List ℕ → Type 0
IsRun objects steps status output = IsObserved objects steps status output ⊎ IsUnlinked objects status output

-- the bytes are no object text
pub record IsBadObjects (bytes : List ℕ) (status : ℕ) (output : List ℕ) : Type 0 where
  pub status_is : status ≡ 8
  pub none : (objects : Objects) → IsUnitText bytes objects → ⊥
  pub output_is : output ≡ line (codes "error: bad objects")

-- the bytes are the text of objects, which are linked and run
pub record IsLinkedText (bytes : List ℕ) (steps status : ℕ) (output : List ℕ) : Type 0 where
  pub objects : Objects
  pub text : IsUnitText bytes objects
  pub run : IsRun objects steps status output

-- the answer to bytes that are to be linked
abbrev pub IsLinkAnswer : List ℕ → ℕ → ℕ → List ℕ → Type 0
IsLinkAnswer bytes steps status output = IsLinkedText bytes steps status output ⊎ IsBadObjects bytes status output

-- the words are no command line
pub record IsBadWords (words : List (List ℕ)) (status : ℕ) (output : List ℕ) : Type 0 where
  pub status_is : status ≡ 2
  pub none : IsNoCommand words
  pub output_is : output ≡ line (codes "error: bad words")

-- the answer to a command
abbrev pub Answers : Command → List ℕ → ℕ → List ℕ → Type 0
Answers (command.List opts) text = IsAnswer product.Listing text opts
Answers (command.Build opts) text = IsAnswer product.Objects text opts
Answers (command.Link steps) text = IsLinkAnswer text steps
Answers command.Fmt text = IsFormat text

pub record IsDone (words : List (List ℕ)) (text : List ℕ) (status : ℕ) (output : List ℕ) : Type 0 where
  pub command : Command
  pub words_are : AreWords words command
  pub answer : Answers command text status output

-- the report of a command line and a text
abbrev pub IsReport : List (List ℕ) → List ℕ → ℕ → List ℕ → Type 0
IsReport words text status output = IsDone words text status output ⊎ IsBadWords words status output

-- the statuses of an answer
abbrev pub IsAnswerStatus : ℕ → Type 0
IsAnswerStatus status = (status ≡ 0) ⊎ (status ≡ 3) ⊎ (status ≡ 4) ⊎ (status ≡ 5) ⊎ (status ≡ 6) ⊎ (status ≡ 8) ⊎ (status ≡ 9) ⊎ (status ≡ 10) ⊎ (status ≡ 11) ⊎ (status ≡ 12)

-- the statuses that there are
abbrev pub IsStatus : ℕ → Type 0
IsStatus status = (status ≡ 2) ⊎ (status ≡ 20) ⊎ (status ≡ 21) ⊎ (status ≡ 22) ⊎ (status ≡ 23) ⊎ IsAnswerStatus status

-- the status is a report's own: no device failed, memory was found, and the text was not too long
abbrev pub IsSettled : ℕ → Type 0
IsSettled status = (status ≢ 20) × (status ≢ 21) × (status ≢ 22) × (status ≢ 23)

-- the output of a report with this status was written
pub record Reports (words : List (List ℕ)) (text : List ℕ) (status : ℕ) (old new : Option (List ℕ)) : Type 0 where
  pub output : List ℕ
  pub report : IsReport words text status output
  pub written : Appends old new output

-- a prefix of the output of a report was written
pub record ReportsPrefix (words : List (List ℕ)) (text : List ℕ) (old new : Option (List ℕ)) : Type 0 where
  pub status : ℕ
  pub output : List ℕ
  pub report : IsReport words text status output
  pub written : WritesPrefix old new output
