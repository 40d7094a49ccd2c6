-- Tokens whose kinds spell a type, a constant term, braces or a tree spell a twin of it where they stand.
use Rattle.std.proofs.Common.{◌≡◌, ℕ, zero, suc, List, [], true, false, refl}
use Rattle.mm_lex.specs.Lexemes.{LexemeKind, Lexeme}
use Rattle.mm_ast.specs.declared.items.Ast.{Ast}
use Rattle.mm_ast.specs.declared.items.Item as items
use Rattle.mm_ast.specs.declared.types.Type as types
use Rattle.mm_ast.specs.declared.terms.Term as terms
use Rattle.mm_forms.specs.Nesting.{within}
use Rattle.mm_grammar.specs.Codes.{code}
use Rattle.mm_grammar.specs.Rules.{Sort, Types, Terms, Modules, Value, number_of}
use Rattle.mm_grammar.specs.Grammar.{type_node}
use Rattle.mm_grammar.specs.TermGrammar.{term_node}
use Rattle.mm_grammar.specs.ItemGrammar.{braces, crates}
use Rattle.mm_grammar.specs.Reading.{type_languages, term_languages, module_languages, languages, IsText}
use Rattle.mm_grammar.proofs.Deciding.{type_fits, term_fits, braces_fits}
use Rattle.mm_shape.specs.Spellings.{spelled_by, spelled_within}
use Rattle.mm_shape.specs.Shapes.{type_parts, term_parts, module_parts, parts, IsSpelled, SameShape, kinds_of}
use Rattle.mm_shape.proofs.Forgetting.{tree_forgets}
use Rattle.mm_shape.proofs.Full.{full}
use Rattle.mm_shape.proofs.Placing.{placed}
use Rattle.mm_shape.proofs.Twins.{twin, twin_within, one_spelled, other_spelled}
use Rattle.mm_shape.proofs.Steady.{type_steady, term_steady, braces_steady, text_steady}

-- no tokens spell none
abbrev Fills : {A : Type 0} → (A → List LexemeKind → Type 0) → Type 0
Fills {A = A} M = (a : A) → M a [] → ⊥

-- tokens whose kinds spell one spell a twin of it
abbrev Stands : {A : Type 0} → (A → List LexemeKind → Type 0) → (A → List Lexeme → Type 0) → (A → A → List LexemeKind → Type 0) → Type 0
Stands {A = A} M L N = (a : A) (ks : List LexemeKind) → M a ks → (ts : List Lexeme) → kinds_of ts ≡ ks → (b : A) × L b ts × N a b ks

-- In a type there are types, in a constant term terms and types, in braces all.
abbrev pub type_twins : (types.«Type» → types.«Type» → List LexemeKind → Type 0) → (s : Sort) → Value s → Value s → List LexemeKind → Type 0
type_twins N Types = N
type_twins N Terms = λ x y ks. ⊥
type_twins N Modules = λ x y ks. ⊥

abbrev pub term_twins : (terms.Term → terms.Term → List LexemeKind → Type 0) → (s : Sort) → Value s → Value s → List LexemeKind → Type 0
term_twins N Types = twin_within type_node type_twins 2048
term_twins N Terms = N
term_twins N Modules = λ x y ks. ⊥

abbrev pub module_twins : (List items.Item → List items.Item → List LexemeKind → Type 0) → (s : Sort) → Value s → Value s → List LexemeKind → Type 0
module_twins N Types = twin_within type_node type_twins 2048
module_twins N Terms = twin_within term_node term_twins 256
module_twins N Modules = N

-- each of two twins is spelled
abbrev Both : {A : Type 0} → (A → A → List LexemeKind → Type 0) → (A → List LexemeKind → Type 0) → Type 0
Both {A = A} N M = (x y : A) (ks : List LexemeKind) → N x y ks → M x ks × M y ks

pub type_both : (N : types.«Type» → types.«Type» → List LexemeKind → Type 0) (M : types.«Type» → List LexemeKind → Type 0) → Both N M → (s : Sort) → Both (type_twins N s) (type_parts M s)
type_both N M own Types x y ks t = own x y ks t
type_both N M own Terms x y ks t = absurd t
type_both N M own Modules x y ks t = absurd t

pub types_both : (n : ℕ) → Both (twin_within type_node type_twins n) (spelled_within type_node type_parts n)
unfolding twin_within spelled_within
types_both zero x y ks t = absurd t
types_both (suc n) x y ks t =
    let part = type_both _ _ (types_both n) in
    (one_spelled _ _ (λ s u v js r. (part s u v js r).0) type_node 0 x y ks t, other_spelled _ _ (λ s u v js r. (part s u v js r).1) type_node 0 x y ks t)

pub term_both : (N : terms.Term → terms.Term → List LexemeKind → Type 0) (M : terms.Term → List LexemeKind → Type 0) → Both N M → (s : Sort) → Both (term_twins N s) (term_parts M s)
term_both N M own Types x y ks t = types_both 2048 x y ks t
term_both N M own Terms x y ks t = own x y ks t
term_both N M own Modules x y ks t = absurd t

pub terms_both : (n : ℕ) → Both (twin_within term_node term_twins n) (spelled_within term_node term_parts n)
unfolding twin_within spelled_within
terms_both zero x y ks t = absurd t
terms_both (suc n) x y ks t =
    let part = term_both _ _ (terms_both n) in
    (one_spelled _ _ (λ s u v js r. (part s u v js r).0) term_node 0 x y ks t, other_spelled _ _ (λ s u v js r. (part s u v js r).1) term_node 0 x y ks t)

pub module_both : (N : List items.Item → List items.Item → List LexemeKind → Type 0) (M : List items.Item → List LexemeKind → Type 0) → Both N M → (s : Sort) → Both (module_twins N s) (module_parts M s)
module_both N M own Types x y ks t = types_both 2048 x y ks t
module_both N M own Terms x y ks t = terms_both 256 x y ks t
module_both N M own Modules x y ks t = own x y ks t

pub braces_both : (n : ℕ) → Both (twin_within braces module_twins n) (spelled_within braces module_parts n)
unfolding twin_within spelled_within
braces_both zero x y ks t = absurd t
braces_both (suc n) x y ks t =
    let part = module_both _ _ (braces_both n) in
    (one_spelled _ _ (λ s u v js r. (part s u v js r).0) braces 0 x y ks t, other_spelled _ _ (λ s u v js r. (part s u v js r).1) braces 0 x y ks t)

type_fill : (M : types.«Type» → List LexemeKind → Type 0) → Fills M → (s : Sort) → Fills (type_parts M s)
type_fill M own Types v s = own v s
type_fill M own Terms v s = s
type_fill M own Modules v s = s

type_stand : (M : types.«Type» → List LexemeKind → Type 0) (L : types.«Type» → List Lexeme → Type 0) (N : types.«Type» → types.«Type» → List LexemeKind → Type 0) → Stands M L N → (s : Sort) → Stands (type_parts M s) (type_languages true L s) (type_twins N s)
type_stand M L N own Types v ks s ts is = own v ks s ts is
type_stand M L N own Terms v ks s ts is = absurd s
type_stand M L N own Modules v ks s ts is = absurd s

types_fill : (n : ℕ) → Fills (spelled_within type_node type_parts n)
unfolding spelled_within
types_fill zero t s = s
types_fill (suc n) t s = full _ (type_fill _ (types_fill n)) type_node type_fits.full 0 t [] refl s

types_stand : (n : ℕ) → Stands (spelled_within type_node type_parts n) (within code number_of type_node type_languages true n) (twin_within type_node type_twins n)
unfolding spelled_within within twin_within
types_stand zero t ks s ts is = absurd s
types_stand (suc n) t ks s ts is =
    placed _ _ _ (type_fill _ (types_fill n)) (type_stand _ _ _ (types_stand n)) type_node (type_steady _) 0 t ks s ts is

term_fill : (M : terms.Term → List LexemeKind → Type 0) → Fills M → (s : Sort) → Fills (term_parts M s)
term_fill M own Types v s = types_fill 2048 v s
term_fill M own Terms v s = own v s
term_fill M own Modules v s = s

term_stand : (M : terms.Term → List LexemeKind → Type 0) (L : terms.Term → List Lexeme → Type 0) (N : terms.Term → terms.Term → List LexemeKind → Type 0) → Stands M L N → (s : Sort) → Stands (term_parts M s) (term_languages true L s) (term_twins N s)
term_stand M L N own Types v ks s ts is = types_stand 2048 v ks s ts is
term_stand M L N own Terms v ks s ts is = own v ks s ts is
term_stand M L N own Modules v ks s ts is = absurd s

terms_fill : (n : ℕ) → Fills (spelled_within term_node term_parts n)
unfolding spelled_within
terms_fill zero t s = s
terms_fill (suc n) t s = full _ (term_fill _ (terms_fill n)) term_node term_fits.full 0 t [] refl s

terms_stand : (n : ℕ) → Stands (spelled_within term_node term_parts n) (within code number_of term_node term_languages true n) (twin_within term_node term_twins n)
unfolding spelled_within within twin_within
terms_stand zero t ks s ts is = absurd s
terms_stand (suc n) t ks s ts is =
    placed _ _ _ (term_fill _ (terms_fill n)) (term_stand _ _ _ (terms_stand n)) term_node (term_steady _) 0 t ks s ts is

module_fill : (M : List items.Item → List LexemeKind → Type 0) → Fills M → (s : Sort) → Fills (module_parts M s)
module_fill M own Types v s = types_fill 2048 v s
module_fill M own Terms v s = terms_fill 256 v s
module_fill M own Modules v s = own v s

module_stand : (M : List items.Item → List LexemeKind → Type 0) (L : List items.Item → List Lexeme → Type 0) (N : List items.Item → List items.Item → List LexemeKind → Type 0) → Stands M L N → (s : Sort) → Stands (module_parts M s) (module_languages true L s) (module_twins N s)
module_stand M L N own Types v ks s ts is = types_stand 2048 v ks s ts is
module_stand M L N own Terms v ks s ts is = terms_stand 256 v ks s ts is
module_stand M L N own Modules v ks s ts is = own v ks s ts is

braces_fill : (n : ℕ) → Fills (spelled_within braces module_parts n)
unfolding spelled_within
braces_fill zero t s = s
braces_fill (suc n) t s = full _ (module_fill _ (braces_fill n)) braces braces_fits.full 0 t [] refl s

braces_stand : (n : ℕ) → Stands (spelled_within braces module_parts n) (within code number_of braces module_languages true n) (twin_within braces module_twins n)
unfolding spelled_within within twin_within
braces_stand zero t ks s ts is = absurd s
braces_stand (suc n) t ks s ts is =
    placed _ _ _ (module_fill _ (braces_fill n)) (module_stand _ _ _ (braces_stand n)) braces (braces_steady _) 0 t ks s ts is

-- the trees that the same kinds of tokens spell in the same way
abbrev pub TreeTwins : Ast → Ast → List LexemeKind → Type 0
TreeTwins a b ks = twin (module_twins (twin_within braces module_twins 64)) crates 0 a b ks

pub twin_again : (tree : Ast) (ts : List Lexeme) → IsSpelled tree (kinds_of ts) → (other : Ast) × IsText other ts × TreeTwins tree other (kinds_of ts)
twin_again tree ts s = placed parts (languages true) _ (module_fill _ (braces_fill 64)) (module_stand _ _ _ (braces_stand 64)) crates (text_steady _) 0 tree (kinds_of ts) s ts refl

pub stands_again : (tree : Ast) (ts : List Lexeme) → IsSpelled tree (kinds_of ts) → (other : Ast) × IsText other ts × SameShape tree other
stands_again tree ts s =
    let p = twin_again tree ts s in
    (p.0, p.1, record { kinds = kinds_of ts; one = s; other = tree_forgets p.0 ts p.1 })
