-- The first fault of tokens that are no text, and its position.
use Rattle.std.specs.Prelude.{◌≡◌, ℕ, List, [], ◌∷◌, Result, Ok, Err}
use Rattle.mm_lex.specs.declared.token.Token.{Token}
use Rattle.mm_lex.specs.declared.text_fault.TextRule.{TextRule}
use Rattle.mm_lex.specs.declared.text_fault.TextRule.TheVariants as rules
use Rattle.mm_lex.specs.declared.text_fault.TextFault.{TextFault}
use Rattle.mm_lex.specs.declared.text_fault.TextFault.TheVariants.{BadText, NoMemory}
use Rattle.mm_lex.specs.Lexemes.{Lexeme, lexemes}
use Rattle.mm_lex.specs.Positions.{end_position}
use Rattle.mm_forms.specs.declared.fault.Fault.{Fault}
use Rattle.mm_forms.specs.declared.fault.Fault.TheVariants.{Unfit, TooMany, TooDeep}
use Rattle.mm_forms.specs.Verdict.{IsFault}
use Rattle.mm_grammar.specs.Reading.{IsAnyText, IsPastLimit}

-- The tokens from the faulty one on are these. A token is faulty that no continuation allows, or that goes past a limit.
abbrev pub IsTreeFault : Fault → List Lexeme → List Lexeme → Type 0
IsTreeFault = IsFault IsAnyText IsPastLimit

-- the rule that a fault breaks; that a signature has no more parameters than it may have is a rule of the grammar
abbrev pub rule_of : Fault → TextRule
rule_of Unfit = rules.Token
rule_of TooMany = rules.Token
rule_of TooDeep = rules.Depth

-- The faulty token stands there; at the end of the tokens it is the place just behind the last character of the text.
abbrev pub StandsAt : List ℕ → List Lexeme → ℕ → ℕ → Type 0
StandsAt text [] line column = (line ≡ (end_position text).line) × (column ≡ (end_position text).column)
StandsAt text (t ∷ ts) line column = (line ≡ t.line) × (column ≡ t.column)

-- The first fault of the tokens of a text.
pub record IsGrammarFault (text : List ℕ) (tokens : List Token) (rule : TextRule) (line column : ℕ) : Type 0 where
  pub fault : Fault
  pub rest : List Lexeme
  pub first : IsTreeFault fault (lexemes text tokens) rest
  pub rule_is : rule ≡ rule_of fault
  pub stands : StandsAt text rest line column

-- what is said of the tokens where there is no tree; that memory is wanting says nothing of them
abbrev pub Refuses : List ℕ → List Token → TextFault → Type 0
Refuses text tokens (BadText line column rule) = IsGrammarFault text tokens rule line column
Refuses text tokens NoMemory = Unit {0}
