-- Tokens that spell a part spell it by their kinds.
use Rattle.std.proofs.Common.{◌≡◌, ◌⊎◌, inl, inr, ℕ, zero, suc, ◌+◌, ◌-◌, ◌≤◌, List, [], ◌∷◌, ◌++◌, length, map, Bool, true, refl, sym, ap, subst, ◌∙◌}
use Rattle.std.proofs.lemmas.List.{map-append}
use Rattle.mm_lex.specs.Lexemes.{LexemeKind, Lexeme}
use Rattle.mm_ast.specs.declared.items.Ast.{Ast}
use Rattle.mm_ast.specs.declared.items.Item as items
use Rattle.mm_ast.specs.declared.types.Type as types
use Rattle.mm_ast.specs.declared.terms.Term as terms
use Rattle.mm_forms.specs.Language.{Joined, each}
use Rattle.mm_forms.specs.Forms.{Nothing, Token, Preceded, Terminated, Numbered, Then, Or, Many, ManyNumbered, ManyBelow, Map, At, Below, Inner, Token_of, spells}
use Rattle.mm_forms.specs.Nesting.{within}
use Rattle.mm_grammar.specs.Codes.{code}
use Rattle.mm_grammar.specs.Rules.{Sort, Types, Terms, Modules, Value, Rule, number_of}
use Rattle.mm_grammar.specs.Grammar.{type_node}
use Rattle.mm_grammar.specs.TermGrammar.{term_node}
use Rattle.mm_grammar.specs.ItemGrammar.{braces, crates}
use Rattle.mm_grammar.specs.Reading.{type_languages, term_languages, module_languages, languages, IsText}
use Rattle.mm_shape.specs.Spellings.{Spelling_of, IsOne, IsNumbered, spelled_by, spelled_within}
use Rattle.mm_shape.specs.Shapes.{type_parts, term_parts, module_parts, parts, IsSpelled, kinds_of}

joined : (L K : List Lexeme → Type 0) (M N : List LexemeKind → Type 0) → ((ts : List Lexeme) → L ts → M (kinds_of ts)) → ((ts : List Lexeme) → K ts → N (kinds_of ts))
    → (ts : List Lexeme) → Joined L K ts → Joined M N (kinds_of ts)
joined L K M N one two ts s = record {
  front = kinds_of s.front;
  back = kinds_of s.back;
  is = ap kinds_of s.is ∙ map-append (λ (t : Lexeme). t.kind) s.front s.back;
  first = one s.front s.first;
  second = two s.back s.second;
}

one : (n : ℕ) (ts : List Lexeme) → Token_of code n (λ t. tt {0}) (tt {0}) ts → IsOne n (kinds_of ts)
one n ts s = record { kind = s.token.kind; is = ap kinds_of s.is; kind_is = s.kind_is }

numbered : (n k : ℕ) (ts : List Lexeme) → Token_of code n number_of k ts → IsNumbered n k (kinds_of ts)
numbered n k ts s = record { kind = s.token.kind; is = ap kinds_of s.is; kind_is = s.kind_is; number_is = s.value_is }

every : {A : Type 0} (L : ℕ → A → List Lexeme → Type 0) (M : ℕ → A → List LexemeKind → Type 0) → ((k : ℕ) (a : A) (ts : List Lexeme) → L k a ts → M k a (kinds_of ts))
    → (k : ℕ) (xs : List A) (ts : List Lexeme) → each L k xs ts → each M k xs (kinds_of ts)
every L M each_one k [] ts s = ap kinds_of s
every L M each_one k (x ∷ xs) ts s = joined (L k x) (each L (k + 1) xs) (M k x) (each M (k + 1) xs) (each_one k x) (every L M each_one (k + 1) xs) ts s

module _ (L : (s : Sort) → Value s → List Lexeme → Type 0) (M : (s : Sort) → Value s → List LexemeKind → Type 0) (part : (s : Sort) (v : Value s) (ts : List Lexeme) → L s v ts → M s v (kinds_of ts)) where
  pub forgets : {A : Type 0} (f : Rule A) (k : ℕ) (a : A) (ts : List Lexeme) → spells code number_of true L f k a ts → spelled_by M f k a (kinds_of ts)
  forgets (Nothing b) k a ts s = (s.0, ap kinds_of s.1)
  forgets (Token n value) k a ts s = record { token = s.token; is = ap kinds_of s.is; kind_is = s.kind_is; value_is = s.value_is }
  forgets (Preceded n f) k a ts s = joined _ _ _ _ (one n) (forgets f k a) ts s
  forgets (Terminated f n) k a ts s = joined _ _ _ _ (forgets f k a) (one n) ts s
  forgets (Numbered n f) k a ts s = joined _ _ _ _ (numbered n k) (forgets f 0 a) ts s
  forgets (Then f number g) k a ts s = joined _ _ _ _ (forgets f k a.0) (forgets g (number a.0) a.1) ts s
  forgets (Or f g) k a ts s = elim s [
    | inl s ↦ inl (forgets f k a ts s)
    | inr s ↦ inr (forgets g k a ts s)
  ]
  forgets (Many f) k a ts s = every _ _ (λ i. forgets f 0) 0 a ts s
  forgets (ManyNumbered f) k a ts s = every _ _ (forgets f) 0 a ts s
  forgets (ManyBelow most f) k a ts s = (s.0, every _ _ (forgets f) k a ts s.1)
  forgets (Map make f) k a ts s = (s.0, s.1, forgets f k s.0 ts s.2)
  forgets (At place f) k a ts s = forgets f k a.1 ts s.0
  forgets (Below most s') k a ts s = (s.0 refl, part s' a ts s.1)
  forgets (Inner s') k a ts s = part s' a ts s

type_parts_forget : (L : types.«Type» → List Lexeme → Type 0) (M : types.«Type» → List LexemeKind → Type 0) → ((v : types.«Type») (ts : List Lexeme) → L v ts → M v (kinds_of ts))
    → (s : Sort) (v : Value s) (ts : List Lexeme) → type_languages true L s v ts → type_parts M s v (kinds_of ts)
type_parts_forget L M own Types v ts s = own v ts s
type_parts_forget L M own Terms v ts s = s
type_parts_forget L M own Modules v ts s = s

type_forgets : (n : ℕ) (t : types.«Type») (ts : List Lexeme) → within code number_of type_node type_languages true n t ts → spelled_within type_node type_parts n t (kinds_of ts)
unfolding within spelled_within
type_forgets zero t ts s = s
type_forgets (suc n) t ts s = forgets _ _ (type_parts_forget _ _ (type_forgets n)) type_node 0 t ts s

term_parts_forget : (L : terms.Term → List Lexeme → Type 0) (M : terms.Term → List LexemeKind → Type 0) → ((v : terms.Term) (ts : List Lexeme) → L v ts → M v (kinds_of ts))
    → (s : Sort) (v : Value s) (ts : List Lexeme) → term_languages true L s v ts → term_parts M s v (kinds_of ts)
term_parts_forget L M own Types v ts s = type_forgets 2048 v ts s
term_parts_forget L M own Terms v ts s = own v ts s
term_parts_forget L M own Modules v ts s = s

term_forgets : (n : ℕ) (t : terms.Term) (ts : List Lexeme) → within code number_of term_node term_languages true n t ts → spelled_within term_node term_parts n t (kinds_of ts)
unfolding within spelled_within
term_forgets zero t ts s = s
term_forgets (suc n) t ts s = forgets _ _ (term_parts_forget _ _ (term_forgets n)) term_node 0 t ts s

module_parts_forget : (L : List items.Item → List Lexeme → Type 0) (M : List items.Item → List LexemeKind → Type 0) → ((v : List items.Item) (ts : List Lexeme) → L v ts → M v (kinds_of ts))
    → (s : Sort) (v : Value s) (ts : List Lexeme) → module_languages true L s v ts → module_parts M s v (kinds_of ts)
module_parts_forget L M own Types v ts s = type_forgets 2048 v ts s
module_parts_forget L M own Terms v ts s = term_forgets 256 v ts s
module_parts_forget L M own Modules v ts s = own v ts s

braces_forget : (n : ℕ) (t : List items.Item) (ts : List Lexeme) → within code number_of braces module_languages true n t ts → spelled_within braces module_parts n t (kinds_of ts)
unfolding within spelled_within
braces_forget zero t ts s = s
braces_forget (suc n) t ts s = forgets _ _ (module_parts_forget _ _ (braces_forget n)) braces 0 t ts s

pub tree_forgets : (tree : Ast) (ts : List Lexeme) → IsText tree ts → IsSpelled tree (kinds_of ts)
tree_forgets tree ts s = forgets (languages true) parts (module_parts_forget _ _ (braces_forget 64)) crates 0 tree ts s
