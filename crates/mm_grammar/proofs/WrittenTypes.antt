-- Each type that is read from a text has as many types below each head as it takes, and each name is a name.
use Rattle.std.proofs.Common.{◌≡◌, ◌≢◌, ◌⊎◌, inl, inr, ℕ, zero, suc, ◌+◌, ◌*◌, List, [], ◌∷◌, ◌++◌, length, map, Bool, true, Option, Some, None, refl, sym, ap, subst, ◌∙◌, arith}
use Rattle.std.specs.Prelude.{All, ⊤}
use Rattle.std.proofs.lemmas.List.Elements.{All-nil, All-cons, All-append, All-head, All-tail}
use Rattle.mm_names.specs.Names.{IsName}
use Rattle.mm_lex.specs.Lexemes.{LexemeKind, Name as NameKind, Word, Local, Label, Number, Punct, Other, Lexeme}
use Rattle.mm_lex.specs.Tokens.{IsLexeme}
use Rattle.mm_lex.specs.Pieces.{IsToken}
use Rattle.mm_ast.specs.declared.names.Name.{Name}
use Rattle.mm_ast.specs.declared.names.PathWithArgs.{PathWithArgs}
use Rattle.mm_ast.specs.declared.types.Type as types
use Rattle.mm_ast.specs.declared.types.Type.TheOpen.{Type-F}
use Rattle.mm_ast.specs.declared.types.Type.TheViews.{roll-Type}
use Rattle.mm_ast.specs.declared.types.Type.TheFolds.{every-Type, every_made-Type}
use Rattle.mm_ast.specs.declared.types.Head.{Head}
use Rattle.mm_ast.specs.declared.types.Head.TheVariants as heads
use Rattle.mm_ast.specs.declared.terms.Term as terms
use Rattle.mm_ast.specs.declared.items.Item as items
use Rattle.mm_ast.specs.Written.{Takes, TakesBelow, IsWrittenType, IsWrittenItem}
use Rattle.mm_forms.specs.Nesting.{within}
use Rattle.mm_forms.proofs.Values.{all_from, every, all_from-all, IsTokenOf, made_of, made, Over}
use Rattle.mm_grammar.specs.Codes.{kind_code, code, word_code, punct_code}
use Rattle.mm_grammar.specs.Rules.{Sort, Types, Terms, Modules, Value, Rule, number_of, text_of, text_of_kind}
use Rattle.mm_grammar.specs.Grammar.{Shape, name, more_types, next_type, some_types, args, path_args, tys, fields, tuple, reference, boxed, fn_pointer, named, named_shape, behind_krate, path_shape, shape, type_node}
use Rattle.mm_grammar.specs.Reading.{type_languages, is_type}

-- what is known of the parts
abbrev pub IsWrittenPart : (s : Sort) → Value s → Type 0
IsWrittenPart Types = IsWrittenType
IsWrittenPart Terms = λ t. ⊤
IsWrittenPart Modules = All IsWrittenItem

abbrev pub Made : {A : Type 0} → Rule A → ℕ → A → Type 0
Made f k a = made_of IsLexeme code number_of IsWrittenPart f k a

-- ---- names

name_kind : (kind : LexemeKind) (bytes : List ℕ) → IsToken kind → kind_code kind ≡ 2 → bytes ≡ text_of_kind kind → IsName bytes
name_kind (NameKind text) bytes fine is same = subst IsName (sym same) fine
name_kind (Word w) bytes fine is same = absurd (omega (arith, is))
name_kind (Local n) bytes fine is same = absurd (omega (arith, is))
name_kind (Label n) bytes fine is same = absurd (omega (arith, is))
name_kind (Number n) bytes fine is same = absurd (omega (arith, is))
name_kind (Punct p) bytes fine is same = absurd (omega (arith, is))
name_kind Other bytes fine is same = absurd fine

pub text_named : (bytes : List ℕ) → IsTokenOf IsLexeme code 2 text_of bytes → IsName bytes
text_named bytes t = name_kind t.token.kind bytes t.fine t.kind_is t.value_is

pub name_named : (n : Name) → Made name 0 n → IsName n.text
unfolding name
name_named n m = subst (λ (x : Name). IsName x.text) (sym m.1) (text_named m.0.1 m.2)

-- ---- types

paired : (ts : List types.«Type») → All IsWrittenType ts → List ((t : types.«Type») × IsWrittenType t)
paired [] each = []
paired (t ∷ ts) each = (t, All-head IsWrittenType t ts each) ∷ paired ts (All-tail IsWrittenType t ts each)

paired_are : (ts : List types.«Type») (each : All IsWrittenType ts) → map (λ e. e.0) (paired ts each) ≡ ts
unfolding paired
paired_are [] each = refl
paired_are (t ∷ ts) each = ap (λ list. t ∷ list) (paired_are ts (All-tail IsWrittenType t ts each))

-- the head takes the types below it, and they are written
abbrev Fits : Shape → Type 0
Fits s = Takes s.0 (length s.1) × All IsWrittenType s.1

node_written : (line : ℕ) (s : Shape) → Fits s → IsWrittenType (roll-Type (record { line = line; head = s.0; children = s.1 }))
unfolding IsWrittenType paired
node_written line s fits =
    every_made-Type TakesBelow
    (record { line = line; head = s.0; children = s.1 })
    (record { line = line; head = s.0; children = paired s.1 fits.1 })
    (λ i. record { line = line; head = s.0; children = paired_are s.1 fits.1 i })
    fits.0

pub each_written : (ts : List types.«Type») → Made more_types 0 ts → All IsWrittenType ts
unfolding more_types next_type
each_written ts m = all_from-all (λ i. IsWrittenType) IsWrittenType (λ i t w. w) 0 ts m

pub some_written : (ts : List types.«Type») → Made some_types 0 ts → All IsWrittenType ts
unfolding some_types
some_written ts m = subst (All IsWrittenType) (sym m.1) (All-cons IsWrittenType m.0.0 m.0.1 m.2.0 (each_written m.0.1 m.2.1))

pub args_written : (ts : List types.«Type») → Made args 0 ts → All IsWrittenType ts
unfolding args
args_written ts (inl m) = some_written ts m
args_written ts (inr e) = subst (All IsWrittenType) (sym e) (All-nil IsWrittenType)

pub path_args_written : (p : PathWithArgs) → Made path_args 0 p → All IsWrittenType p.args
unfolding path_args
path_args_written p m = subst (λ (q : PathWithArgs). All IsWrittenType q.args) (sym m.1) (args_written m.0.1 m.2.1)

pub tys_written : (ts : List types.«Type») → Made tys 0 ts → All IsWrittenType ts
unfolding tys
tys_written ts (inl e) = subst (All IsWrittenType) (sym e) (All-nil IsWrittenType)
tys_written ts (inr m) = some_written ts m

tuple_fits : (s : Shape) → Made tuple 0 s → Fits s
unfolding tuple fields some_types
tuple_fits s (ts, is, inl e) = subst Fits (sym is) (λ one. absurd (omega (arith, ap length e, one)), subst (All IsWrittenType) (sym e) (All-nil IsWrittenType))
tuple_fits s (ts, is, inr (p, e, (first, (q, f, (second, others))))) =
    subst Fits (sym is) (
      λ one. absurd (omega (arith, ap length e, ap length f, one)),
      subst (All IsWrittenType) (sym e) (All-cons IsWrittenType p.0 p.1 first (subst (All IsWrittenType) (sym f) (All-cons IsWrittenType q.0 q.1 second (each_written q.1 others)))),
    )

one_fits : (head : Head) (t : types.«Type») → Takes head 1 → IsWrittenType t → Fits (head, t ∷ [])
one_fits head t takes w = (takes, All-cons IsWrittenType t [] w (All-nil IsWrittenType))

some_same : {A : Type 0} (a b : A) → Some a ≡ Some b → a ≡ b
some_same a b e = cc

none_some : {A : Type 0} (a : A) → None ≡ Some a → ⊥
none_some a e = cc

named_fits : (line : ℕ) (krate : List ℕ) (more : Option (List (List ℕ) × List types.«Type»)) → ((p : List (List ℕ) × List types.«Type») → more ≡ Some p → All IsWrittenType p.1) → Fits (named_shape line krate more)
named_fits line krate None each = (refl, All-nil IsWrittenType)
named_fits line krate (Some p) each = (tt, each p refl)

named_types : (p : List (List ℕ) × List types.«Type») → Made behind_krate 0 p → All IsWrittenType p.1
unfolding behind_krate
named_types p m = args_written p.1 m.1

named_written : (s : Shape) → Made named 0 s → Fits s
unfolding named
named_written s (p, is, (krate, inl (q, e, m))) = subst Fits (sym is) (named_fits p.0 p.1.0 p.1.1 (λ r same. named_types r (subst (Made behind_krate 0) (some_same q r (sym e ∙ same)) m)))
named_written s (p, is, (krate, inr e)) = subst Fits (sym is) (named_fits p.0 p.1.0 p.1.1 (λ r same. absurd (none_some r (sym e ∙ same))))

reference_fits : (s : Shape) → Made reference 0 s → Fits s
unfolding reference
reference_fits s m = subst Fits (sym m.1) (one_fits heads.Ref m.0 refl m.2)

boxed_fits : (s : Shape) → Made boxed 0 s → Fits s
unfolding boxed
boxed_fits s m = subst Fits (sym m.1) (one_fits heads.Boxed m.0 refl m.2)

pointer_fits : (s : Shape) → Made fn_pointer 0 s → Fits s
unfolding fn_pointer
pointer_fits s m = subst Fits (sym m.1) (tt, All-append IsWrittenType m.0.0 (m.0.1 ∷ []) (tys_written m.0.0 m.2.0) (All-cons IsWrittenType m.0.1 [] m.2.1 (All-nil IsWrittenType)))

path_fits : (s : Shape) → Made path_shape 0 s → Fits s
unfolding path_shape
path_fits s (inl m) = subst Fits (sym m.1) (tt, path_args_written m.0 m.2)
path_fits s (inr (inl m)) = subst Fits (sym m.1) (tt, path_args_written m.0 m.2)
path_fits s (inr (inr (inl m))) = subst Fits (sym m.1) (tt, path_args_written m.0 m.2)
path_fits s (inr (inr (inr m))) = named_written s m

shape_fits : (s : Shape) → Made shape 0 s → Fits s
unfolding shape
shape_fits s (inl e) = subst Fits (sym e) (tt, All-nil IsWrittenType)
shape_fits s (inr (inl e)) = subst Fits (sym e) (refl, All-nil IsWrittenType)
shape_fits s (inr (inr (inl e))) = subst Fits (sym e) (refl, All-nil IsWrittenType)
shape_fits s (inr (inr (inr (inl m)))) = tuple_fits s m
shape_fits s (inr (inr (inr (inr (inl m))))) = reference_fits s m
shape_fits s (inr (inr (inr (inr (inr (inl m)))))) = boxed_fits s m
shape_fits s (inr (inr (inr (inr (inr (inr (inl m))))))) = pointer_fits s m
shape_fits s (inr (inr (inr (inr (inr (inr (inr m))))))) = path_fits s m

made_type : (t : types.«Type») → Made type_node 0 t → IsWrittenType t
unfolding type_node
made_type t m = subst IsWrittenType (sym m.1) (node_written m.0.0 m.0.1 (shape_fits m.0.1 m.2))

below : (L : types.«Type» → List Lexeme → Type 0) → Over IsLexeme L IsWrittenType → (s : Sort) → Over IsLexeme (type_languages true L s) (IsWrittenPart s)
below L one Types = one
below L one Terms = λ a ts fine l. absurd l
below L one Modules = λ a ts fine l. absurd l

within_written : (n : ℕ) → Over IsLexeme (within code number_of type_node type_languages true n) IsWrittenType
unfolding within
within_written zero t ts fine s = absurd s
within_written (suc n) t ts fine s =
    let L = within code number_of type_node type_languages true n in
    made_type t (made IsLexeme code number_of IsWrittenPart (type_languages true L) (below L (within_written n)) type_node 0 t ts fine s)

pub type_written : (t : types.«Type») (ts : List Lexeme) → every IsLexeme ts → is_type true t ts → IsWrittenType t
type_written = within_written 2048
