-- Which trees tokens spell, how they are read, and where they go past a limit. Types nest at most 2,048 levels deep, constant
-- terms 256, and modules 64, each counted by itself.
use Rattle.std.specs.Prelude.{ℕ, List, [], ◌∷◌, Bool, true, false, Err}
use Rattle.mm_names.specs.declared.word.Word.TheVariants as words
use Rattle.mm_lex.specs.declared.punct.Punct.TheVariants as puncts
use Rattle.mm_lex.specs.Lexemes.{Lexeme}
use Rattle.mm_lex.specs.Lexemes as kinds
use Rattle.mm_ast.specs.declared.items.Ast.{Ast}
use Rattle.mm_ast.specs.declared.items.Item as items
use Rattle.mm_ast.specs.declared.types.Type as types
use Rattle.mm_ast.specs.declared.terms.Term as terms
use Rattle.mm_forms.specs.declared.fault.Fault.{Fault}
use Rattle.mm_forms.specs.declared.fault.Fault.TheVariants.{Unfit}
use Rattle.mm_forms.specs.Language.{Opens}
use Rattle.mm_forms.specs.Forms.{Read, begins, firsts, spells, crosses, reads}
use Rattle.mm_forms.specs.Nesting.{nests, beyond, within_in, none_in}
use Rattle.mm_grammar.specs.Codes.{kind_code, code}
use Rattle.mm_grammar.specs.Rules.{Sort, Types, Terms, Modules, Value, Rule, number_of}
use Rattle.mm_grammar.specs.Grammar.{type_node}
use Rattle.mm_grammar.specs.TermGrammar.{term_node}
use Rattle.mm_grammar.specs.ItemGrammar.{braces, crates}

-- the kinds of tokens with which a type, a constant term, and what stands in braces begin
abbrev pub start : Sort → List ℕ
start Types =
    kind_code (kinds.Word words.SelfType) ∷ kind_code (kinds.Word words.U64) ∷ kind_code (kinds.Word words.Bool) ∷ kind_code (kinds.Punct puncts.Open) ∷ kind_code (kinds.Punct puncts.Ampersand) ∷
    kind_code (kinds.Word words.BoxType) ∷ kind_code (kinds.Word words.FnPtr) ∷ kind_code (kinds.Word words.FnItem) ∷ kind_code (kinds.Word words.Closure) ∷ kind_code (kinds.Word words.Dyn) ∷ 2 ∷ []
start Terms =
    5 ∷ kind_code (kinds.Word words.True) ∷ kind_code (kinds.Word words.False) ∷ kind_code (kinds.Word words.Tuple) ∷ kind_code (kinds.Word words.Fn) ∷ kind_code (kinds.Word words.New) ∷
    kind_code (kinds.Punct puncts.Ampersand) ∷ []
start Modules = kind_code (kinds.Punct puncts.OpenBrace) ∷ []

-- no part of a sort that does not occur
abbrev pub none : {A : Type 0} → A → List Lexeme → Type 0
none a ts = ⊥

abbrev pub no_crossing : Fault → List Lexeme → Type 0
no_crossing x ts = ⊥

abbrev pub none_read : {A : Type 0} → List Lexeme → Read Lexeme A
none_read ts = Err (Unfit, ts)

-- In a type there are types.
abbrev pub type_languages : Bool → (types.«Type» → List Lexeme → Type 0) → (s : Sort) → Value s → List Lexeme → Type 0
type_languages limited L Types = L
type_languages limited L Terms = none
type_languages limited L Modules = none

abbrev pub is_type : Bool → types.«Type» → List Lexeme → Type 0
is_type = nests code number_of type_node type_languages 2048

abbrev pub type_crossings : (Fault → List Lexeme → Type 0) → Sort → Fault → List Lexeme → Type 0
type_crossings C Types = C
type_crossings C Terms = no_crossing
type_crossings C Modules = no_crossing

abbrev pub beyond_type : Fault → List Lexeme → Type 0
beyond_type = beyond code number_of type_node type_languages type_crossings 2048

-- In a constant term there are terms and types.
abbrev pub term_languages : Bool → (terms.Term → List Lexeme → Type 0) → (s : Sort) → Value s → List Lexeme → Type 0
term_languages limited L Types = is_type limited
term_languages limited L Terms = L
term_languages limited L Modules = none

abbrev pub is_term : Bool → terms.Term → List Lexeme → Type 0
is_term = nests code number_of term_node term_languages 256

abbrev pub term_crossings : (Fault → List Lexeme → Type 0) → Sort → Fault → List Lexeme → Type 0
term_crossings C Types = beyond_type
term_crossings C Terms = C
term_crossings C Modules = no_crossing

abbrev pub beyond_term : Fault → List Lexeme → Type 0
beyond_term = beyond code number_of term_node term_languages term_crossings 256

-- In the braces of a module there are modules, terms and types.
abbrev pub module_languages : Bool → (List items.Item → List Lexeme → Type 0) → (s : Sort) → Value s → List Lexeme → Type 0
module_languages limited L Types = is_type limited
module_languages limited L Terms = is_term limited
module_languages limited L Modules = L

abbrev pub in_braces : Bool → List items.Item → List Lexeme → Type 0
in_braces = nests code number_of braces module_languages 64

abbrev pub module_crossings : (Fault → List Lexeme → Type 0) → Sort → Fault → List Lexeme → Type 0
module_crossings C Types = beyond_type
module_crossings C Terms = beyond_term
module_crossings C Modules = C

abbrev pub beyond_braces : Fault → List Lexeme → Type 0
beyond_braces = beyond code number_of braces module_languages module_crossings 64

-- what spells a part of each sort
abbrev pub languages : Bool → (s : Sort) → Value s → List Lexeme → Type 0
languages limited = module_languages limited (in_braces limited)

abbrev pub crossings : Sort → Fault → List Lexeme → Type 0
crossings = module_crossings beyond_braces

-- The tokens spell the tree, and nothing nests past its limit.
abbrev pub IsText : Ast → List Lexeme → Type 0
IsText tree ts = spells code number_of true (languages true) crates 0 tree ts

-- The tokens spell the tree, whatever the limits.
abbrev pub IsAnyText : Ast → List Lexeme → Type 0
IsAnyText tree ts = spells code number_of false (languages false) crates 0 tree ts

-- These tokens are the front of a text, and the last of them goes past a limit.
abbrev pub IsPastLimit : Fault → List Lexeme → Type 0
IsPastLimit x ts = crosses code number_of true (languages true) (λ s. Opens (languages false s)) crossings crates 0 x ts

-- how a part of each sort is read where so many levels are left
abbrev pub type_readers : (List Lexeme → Read Lexeme types.«Type») → (s : Sort) → List Lexeme → Read Lexeme (Value s)
type_readers R Types = R
type_readers R Terms = none_read
type_readers R Modules = none_read

abbrev pub type_in : ℕ → List Lexeme → Read Lexeme types.«Type»
type_in = within_in code number_of start type_node (start Types) type_readers

-- what is wrong with a type where no level is left
abbrev pub no_type : List Lexeme → Read Lexeme types.«Type»
no_type = none_in code number_of start type_node (start Types) type_readers

abbrev pub term_readers : (List Lexeme → Read Lexeme terms.Term) → (s : Sort) → List Lexeme → Read Lexeme (Value s)
term_readers R Types = type_in 2048
term_readers R Terms = R
term_readers R Modules = none_read

abbrev pub term_in : ℕ → List Lexeme → Read Lexeme terms.Term
term_in = within_in code number_of start term_node (start Terms) term_readers

-- what is wrong with a constant term where no level is left
abbrev pub no_term : List Lexeme → Read Lexeme terms.Term
no_term = none_in code number_of start term_node (start Terms) term_readers

abbrev pub module_readers : (List Lexeme → Read Lexeme (List items.Item)) → (s : Sort) → List Lexeme → Read Lexeme (Value s)
module_readers R Types = type_in 2048
module_readers R Terms = term_in 256
module_readers R Modules = R

abbrev pub braces_in : ℕ → List Lexeme → Read Lexeme (List items.Item)
braces_in = within_in code number_of start braces (start Modules) module_readers

-- what is wrong with the braces of a module where no level is left
abbrev pub no_braces : List Lexeme → Read Lexeme (List items.Item)
no_braces = none_in code number_of start braces (start Modules) module_readers

abbrev pub readers : (s : Sort) → List Lexeme → Read Lexeme (Value s)
readers = module_readers (braces_in 64)

-- how a part is read: within a type, within a constant term, and within a module, where so many levels are left
abbrev pub read_in_type : {A : Type 0} → ℕ → Rule A → List Lexeme → Read Lexeme A
read_in_type levels f ts = reads code start number_of (type_readers (type_in levels)) f 0 ts

abbrev pub read_in_term : {A : Type 0} → ℕ → Rule A → List Lexeme → Read Lexeme A
read_in_term levels f ts = reads code start number_of (term_readers (term_in levels)) f 0 ts

abbrev pub read_in_module : {A : Type 0} → ℕ → Rule A → List Lexeme → Read Lexeme A
read_in_module levels f ts = reads code start number_of (module_readers (braces_in levels)) f 0 ts

-- how a part is read elsewhere, where this number of a local, a label or a parameter is wanted
abbrev pub read_from : {A : Type 0} → ℕ → Rule A → List Lexeme → Read Lexeme A
read_from k f ts = reads code start number_of readers f k ts

abbrev pub read : {A : Type 0} → Rule A → List Lexeme → Read Lexeme A
read = read_from 0

-- whether the next token begins it
abbrev pub begun : {A : Type 0} → Rule A → List Lexeme → Bool
begun f ts = begins code (firsts code start f) ts
