-- The answer to a text that is to be written in its canonical form.
use Rattle.std.specs.Prelude.{◌≡◌, ◌⊎◌, ℕ, List, ◌∷◌, ◌++◌, [], codes, decimal}
use Rattle.mm_plain.specs.declared.program.Program.{Program}
use Rattle.mm_lex.specs.declared.token.Token.{Token}
use Rattle.mm_lex.specs.declared.text_fault.TextRule.{TextRule}
use Rattle.mm_lex.specs.declared.text_fault.TextRule.TheVariants as text_rules
use Rattle.mm_lex.specs.declared.text_fault.TextFault.{TextFault}
use Rattle.mm_lex.specs.declared.text_fault.TextFault.TheVariants.{BadText, NoMemory}
use Rattle.mm_lex.specs.Lexemes.{lexemes}
use Rattle.mm_lex.specs.Tokens.{AreTokensOf, IsFaultOf}
use Rattle.mm_ast.specs.declared.items.Ast.{Ast}
use Rattle.mm_grammar.specs.Reading.{IsText}
use Rattle.mm_grammar.specs.Faults.{Refuses}
use Rattle.mm_load_plain.specs.declared.rule.Rule.{Rule}
use Rattle.mm_load_plain.specs.declared.rule.Rule.TheVariants as rules
use Rattle.mm_load_plain.specs.declared.load_error.LoadError.{LoadError}
use Rattle.mm_load_plain.specs.declared.load_error.LoadError.TheVariants as errors
use Rattle.mm_built.specs.Built.{IsBuilt}
use Rattle.mm_load_plain.specs.Meaning.{IsProgram}
use Rattle.mm_load_plain.specs.Rules.{IsFirstFault}
use Rattle.mm_print.specs.Printing.{IsCanonical}

-- the name of a rule for tokens and for the grammar
abbrev pub text_rule_name : TextRule → List ℕ
text_rule_name text_rules.Utf8 = codes "Utf8"
text_rule_name text_rules.Char = codes "Char"
text_rule_name text_rules.Number = codes "Number"
text_rule_name text_rules.Name = codes "Name"
text_rule_name text_rules.Token = codes "Token"
text_rule_name text_rules.Depth = codes "Depth"

-- the name of a rule of loading
abbrev pub rule_name : Rule → List ℕ
rule_name rules.UnknownName = codes "UnknownName"
rule_name rules.DoubleName = codes "DoubleName"
rule_name rules.WrongArity = codes "WrongArity"
rule_name rules.BadMain = codes "BadMain"
rule_name rules.LongType = codes "LongType"

-- what is reported of a fault of a text
abbrev pub TellsFault : TextFault → ℕ → List ℕ → Type 0
TellsFault (BadText line column rule) status output =
    (status ≡ 3) × (output ≡ codes "error: bad text at " ++ decimal line ++ codes ":" ++ decimal column ++ codes ": " ++ text_rule_name rule ++ 10 ∷ [])
TellsFault NoMemory status output = ⊥

-- what is reported where a tree is not loaded
abbrev pub TellsUnloaded : LoadError → ℕ → List ℕ → Type 0
TellsUnloaded (errors.Rule rule line) status output = (status ≡ 4) × (output ≡ codes "error: bad crate at line " ++ decimal line ++ codes ": " ++ rule_name rule ++ 10 ∷ [])
TellsUnloaded errors.NotBuilt status output = (status ≡ 12) × (output ≡ codes "error: form not built" ++ 10 ∷ [])
TellsUnloaded errors.NoMemory status output = ⊥

-- the tree means a program, and the output is its canonical text
pub record IsPrinted (tree : Ast) (status : ℕ) (output : List ℕ) : Type 0 where
  pub status_is : status ≡ 0
  pub program : Program
  pub loaded : IsProgram tree program
  pub canonical : IsCanonical tree output

-- the tree breaks a rule
pub record SaysBadCrate (tree : Ast) (status : ℕ) (output : List ℕ) : Type 0 where
  pub status_is : status ≡ 4
  pub rule : Rule
  pub line : ℕ
  pub fault : IsFirstFault tree rule line
  pub output_is : output ≡ codes "error: bad crate at line " ++ decimal line ++ codes ": " ++ rule_name rule ++ 10 ∷ []

-- the tree has a form that is not built
pub record SaysNotBuilt (tree : Ast) (status : ℕ) (output : List ℕ) : Type 0 where
  pub status_is : status ≡ 12
  pub unbuilt : IsBuilt tree → ⊥
  pub output_is : output ≡ codes "error: form not built" ++ 10 ∷ []

-- the answer to a tree
abbrev pub IsTreeFormat : Ast → ℕ → List ℕ → Type 0
IsTreeFormat tree status output = IsPrinted tree status output ⊎ SaysBadCrate tree status output ⊎ SaysNotBuilt tree status output

-- the tokens of the text spell a tree, and this is the answer to it
pub record IsReadAs (text : List ℕ) (status : ℕ) (output : List ℕ) : Type 0 where
  pub tokens : List Token
  pub lexed : AreTokensOf text tokens
  pub tree : Ast
  pub spelled : IsText tree (lexemes text tokens)
  pub answer : IsTreeFormat tree status output

-- the text has no tokens, and the first fault is reported
pub record IsUnlexed (text : List ℕ) (status : ℕ) (output : List ℕ) : Type 0 where
  pub fault : TextFault
  pub first : IsFaultOf text fault
  pub told : TellsFault fault status output

-- its tokens spell no tree, and the first fault is reported
pub record IsUnparsed (text : List ℕ) (status : ℕ) (output : List ℕ) : Type 0 where
  pub tokens : List Token
  pub lexed : AreTokensOf text tokens
  pub fault : TextFault
  pub first : Refuses text tokens fault
  pub told : TellsFault fault status output

-- the answer to a text that is to be written in its canonical form
abbrev pub IsFormat : List ℕ → ℕ → List ℕ → Type 0
IsFormat text status output = IsReadAs text status output ⊎ IsUnlexed text status output ⊎ IsUnparsed text status output
