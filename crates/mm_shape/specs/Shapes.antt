-- The shape of a tree is what there is but for the places of its tokens.
use Rattle.std.specs.Prelude.{ℕ, List, [], ◌∷◌, map}
use Rattle.mm_lex.specs.Lexemes.{LexemeKind, Lexeme}
use Rattle.mm_lex.specs.Pieces.{IsToken}
use Rattle.mm_ast.specs.declared.items.Ast.{Ast}
use Rattle.mm_ast.specs.declared.items.Item as items
use Rattle.mm_ast.specs.declared.types.Type as types
use Rattle.mm_ast.specs.declared.terms.Term as terms
use Rattle.mm_grammar.specs.Rules.{Sort, Types, Terms, Modules, Value}
use Rattle.mm_grammar.specs.Grammar.{type_node}
use Rattle.mm_grammar.specs.TermGrammar.{term_node}
use Rattle.mm_grammar.specs.ItemGrammar.{braces, crates}
use Rattle.mm_shape.specs.Spellings.{spelled_by, spelled_within}

-- no part of a sort that does not occur
abbrev pub none : {A : Type 0} → A → List LexemeKind → Type 0
none a ks = ⊥

-- In a type there are types.
abbrev pub type_parts : (types.«Type» → List LexemeKind → Type 0) → (s : Sort) → Value s → List LexemeKind → Type 0
type_parts L Types = L
type_parts L Terms = none
type_parts L Modules = none

abbrev pub is_type : types.«Type» → List LexemeKind → Type 0
is_type = spelled_within type_node type_parts 2048

-- In a constant term there are terms and types.
abbrev pub term_parts : (terms.Term → List LexemeKind → Type 0) → (s : Sort) → Value s → List LexemeKind → Type 0
term_parts L Types = is_type
term_parts L Terms = L
term_parts L Modules = none

abbrev pub is_term : terms.Term → List LexemeKind → Type 0
is_term = spelled_within term_node term_parts 256

-- In the braces of a module there are modules, terms and types.
abbrev pub module_parts : (List items.Item → List LexemeKind → Type 0) → (s : Sort) → Value s → List LexemeKind → Type 0
module_parts L Types = is_type
module_parts L Terms = is_term
module_parts L Modules = L

abbrev pub in_braces : List items.Item → List LexemeKind → Type 0
in_braces = spelled_within braces module_parts 64

abbrev pub parts : (s : Sort) → Value s → List LexemeKind → Type 0
parts = module_parts in_braces

-- Tokens of these kinds spell the tree, wherever they stand.
abbrev pub IsSpelled : Ast → List LexemeKind → Type 0
IsSpelled tree ks = spelled_by parts crates 0 tree ks

-- what some tokens spell
abbrev pub kinds_of : List Lexeme → List LexemeKind
kinds_of ts = map (λ t. t.kind) ts

-- each is a token that there is
abbrev pub AllTokens : List LexemeKind → Type 0
AllTokens [] = Unit {0}
AllTokens (k ∷ ks) = IsToken k × AllTokens ks

-- Two trees have the same shape where tokens of the same kinds spell them.
pub record SameShape (a b : Ast) : Type 0 where
  pub kinds : List LexemeKind
  pub one : IsSpelled a kinds
  pub other : IsSpelled b kinds
