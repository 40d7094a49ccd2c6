-- A tree that is read from a text is written as one.
use Rattle.std.proofs.Common.{◌≡◌, ◌⊎◌, inl, inr, ℕ, zero, suc, ◌+◌, ◌-◌, ◌<◌, ◌≤◌, List, [], ◌∷◌, length, map, Bool, true, false, cond, Option, Some, None, refl, sym, ap, subst, arith}
use Rattle.std.specs.Prelude.{All, ⊤}
use Rattle.std.proofs.lemmas.List.Elements.{All-nil, All-cons, All-head, All-tail}
use Rattle.mm_names.specs.Names.{IsName}
use Rattle.mm_lex.specs.Lexemes.{Lexeme, lexemes}
use Rattle.mm_lex.specs.Tokens.{IsLexeme}
use Rattle.mm_ast.specs.declared.bodies.Block.{Block}
use Rattle.mm_ast.specs.declared.bodies.Body.{Body}
use Rattle.mm_ast.specs.declared.bodies.Call.{Call}
use Rattle.mm_ast.specs.declared.bodies.Called.{Called}
use Rattle.mm_ast.specs.declared.bodies.Called.TheVariants as calleds
use Rattle.mm_ast.specs.declared.bodies.Callee.{Callee}
use Rattle.mm_ast.specs.declared.bodies.Callee.TheVariants as callees
use Rattle.mm_ast.specs.declared.bodies.End.{End}
use Rattle.mm_ast.specs.declared.bodies.End.TheVariants as ends_
use Rattle.mm_ast.specs.declared.items.Ast.{Ast}
use Rattle.mm_ast.specs.declared.items.Crate.{Crate}
use Rattle.mm_ast.specs.declared.items.Definition.{Definition}
use Rattle.mm_ast.specs.declared.items.DefinitionForm.{DefinitionForm}
use Rattle.mm_ast.specs.declared.items.DefinitionForm.TheVariants as definitions
use Rattle.mm_ast.specs.declared.items.Function.{Function}
use Rattle.mm_ast.specs.declared.items.Signature.{Signature}
use Rattle.mm_ast.specs.declared.items.Item as items
use Rattle.mm_ast.specs.declared.items.Item.TheOpen.{Item-F}
use Rattle.mm_ast.specs.declared.items.Item.TheViews.{roll-Item}
use Rattle.mm_ast.specs.declared.items.Item.TheFolds.{every-Item, every_made-Item}
use Rattle.mm_ast.specs.declared.items.ItemForm.{ItemForm}
use Rattle.mm_ast.specs.declared.items.ItemForm.TheVariants as item_forms
use Rattle.mm_ast.specs.declared.types.Type as types
use Rattle.mm_ast.specs.declared.types.Type.TheViews.{out-Type}
use Rattle.mm_ast.specs.declared.types.Head.{Head}
use Rattle.mm_ast.specs.declared.types.Head.TheVariants as heads
use Rattle.mm_ast.specs.Written.{IsWrittenType, IsWrittenResult, IsWrittenCalled, IsWrittenEnd, IsWrittenBlock, IsWrittenFunction, IsWrittenDefinition, IsWrittenForm, IsWrittenHere, IsWrittenItem, IsWrittenCrate, IsWritten}
use Rattle.mm_grammar.specs.declared.heads.CalledMethod.{CalledMethod}
use Rattle.mm_grammar.specs.declared.heads.CalledMethod.TheVariants as methods
use Rattle.mm_grammar.specs.declared.heads.FnHead.{FnHead}
use Rattle.mm_forms.specs.Nesting.{within}
use Rattle.mm_forms.proofs.Values.{all_from, every, all_from-all, all_from-few, made, made_of, Over}
use Rattle.mm_grammar.specs.Codes.{code}
use Rattle.mm_grammar.specs.Rules.{Sort, Types, Terms, Modules, number_of}
use Rattle.mm_grammar.specs.Grammar.{callee, method_callee, method_of, path_args, called, call_place, arguments, called_with, call, end_with_parts, end, drop_end, block_end, block, more_blocks, blocks, declared, lets, body_blocks, body}
use Rattle.mm_grammar.specs.ItemGrammar.{next_param, more_params, some_params, param_types, result_type, is_unit, result_of, signature, bounded, generic, fn_name, fn_head, first_let, function, value_definition, definition_form, definition, Entry, module_entry, entry, item, more_items, braces, crate_name, krate, more_crates, crates}
use Rattle.mm_grammar.specs.Reading.{module_languages, languages, in_braces, IsText}
use Rattle.mm_grammar.proofs.WrittenTypes.{Made, IsWrittenPart, name_named, path_args_written, type_written}

-- ---- bodies

method_free : (self : types.«Type») (m : CalledMethod) → IsWrittenCalled (calleds.Callee (method_of self m))
method_free self (methods.Call line) = tt
method_free self (methods.Trait m) = tt

callee_written : (c : Callee) → Made callee 0 c → IsWrittenCalled (calleds.Callee c)
unfolding callee method_callee
callee_written c (inl m) = subst (λ d. IsWrittenCalled (calleds.Callee d)) (sym m.1) (method_free m.0.0 m.0.1)
callee_written c (inr m) = subst (λ d. IsWrittenCalled (calleds.Callee d)) (sym m.1) (path_args_written m.0 m.2)

called_written : (c : Called) → Made called 0 c → IsWrittenCalled c
unfolding called
called_written c (inl m) = subst IsWrittenCalled (sym m.1) tt
called_written c (inr m) = subst IsWrittenCalled (sym m.1) (callee_written m.0 m.2)

call_written : (c : Call) → Made call 0 c → IsWrittenCalled c.called
unfolding call called_with arguments call_place
call_written c m = subst (λ (d : Call). IsWrittenCalled d.called) (sym m.1) (called_written m.0.1.0 m.2.1.0)

parts_written : (e : End) → Made end_with_parts 0 e → IsWrittenEnd e
unfolding end_with_parts drop_end
parts_written e (inl m) = subst IsWrittenEnd (sym m.1) tt
parts_written e (inr (inl m)) = subst IsWrittenEnd (sym m.1) (call_written m.0 m.2)
parts_written e (inr (inr m)) = subst IsWrittenEnd (sym m.1) tt

end_written : (e : End) → Made end 0 e → IsWrittenEnd e
unfolding end
end_written e (inl m) = subst IsWrittenEnd (sym m) tt
end_written e (inr (inl m)) = subst IsWrittenEnd (sym m) tt
end_written e (inr (inr (inl m))) = subst IsWrittenEnd (sym m.1) tt
end_written e (inr (inr (inr m))) = parts_written e m

block_written : (k : ℕ) (b : Block) → Made block k b → IsWrittenBlock b
unfolding block block_end
block_written k b m = subst IsWrittenBlock (sym m.1) (end_written m.0.1 m.2.1)

-- the blocks of a body: at least one and at most 65,536
record AreBlocks (bs : List Block) : Type 0 where
  some : 1 ≤ length bs
  few : length bs ≤ 65536
  each : All IsWrittenBlock bs

blocks_written : (bs : List Block) → Made blocks 0 bs → AreBlocks bs
unfolding blocks more_blocks
blocks_written bs m =
    let first = m.0.0 in
    let others = m.0.1 in
    let few = m.2.1.0 in
    subst AreBlocks (sym m.1) (record {
      some = omega arith;
      few = omega (arith, few);
      each = All-cons IsWrittenBlock first others (block_written 0 first m.2.0) (all_from-all (Made block) IsWrittenBlock block_written 1 others m.2.1.1);
    })

declared_written : (k : ℕ) (t : types.«Type») → Made declared k t → IsWrittenType t
unfolding declared
declared_written k t m = m

-- what is declared in a body and its blocks
record IsBody (first : ℕ) (b : Body) : Type 0 where
  few : length b.lets ≤ 65536 - first
  lets : All IsWrittenType b.lets
  blocks : AreBlocks b.blocks

body_written : (first : ℕ) (b : Body) → Made body first b → IsBody first b
unfolding body body_blocks lets
body_written first b m = subst (IsBody first) (sym m.1) (record {
  few = m.2.0.0;
  lets = all_from-all (Made declared) IsWrittenType declared_written first m.0.0 m.2.0.1;
  blocks = blocks_written m.0.1 m.2.1;
})

-- ---- functions

param_written : (k : ℕ) (t : types.«Type») → Made next_param k t → (k < 65533) × IsWrittenType t
unfolding next_param
param_written k t m = m

-- the types of the parameters, at most 65,534
abbrev AreParams : List types.«Type» → Type 0
AreParams ts = (length ts ≤ 65534) × All IsWrittenType ts

params_written : (ts : List types.«Type») → Made param_types 0 ts → AreParams ts
unfolding param_types some_params more_params
params_written ts (inl e) = subst AreParams (sym e) (omega arith, All-nil IsWrittenType)
params_written ts (inr m) =
    let few = all_from-few (Made next_param) 65533 (λ i t p. (param_written i t p).0) 0 (omega arith) m.0.1 m.2.1 in
    subst AreParams (sym m.1) (
      omega (arith, few),
      All-cons IsWrittenType m.0.0 m.0.1 m.2.0 (all_from-all (Made next_param) IsWrittenType (λ i t p. (param_written i t p).1) 0 m.0.1 m.2.1),
    )

shown_written : (t : types.«Type») (unit : Bool) → IsWrittenType t → IsWrittenResult (cond unit None (Some t))
shown_written t true w = tt
shown_written t false w = w

result_written : (r : Option types.«Type») → Made result_type 0 r → IsWrittenResult (result_of r)
unfolding result_type
result_written r (inl m) = subst (λ q. IsWrittenResult (result_of q)) (sym m.1) (shown_written m.0 (is_unit (out-Type m.0).head (out-Type m.0).children) m.2)
result_written r (inr e) = subst (λ q. IsWrittenResult (result_of q)) (sym e) tt

abbrev IsSignature : Signature → Type 0
IsSignature s = AreParams s.params × IsWrittenResult s.result

signature_written : (s : Signature) → Made signature 0 s → IsSignature s
unfolding signature
signature_written s m = subst IsSignature (sym m.1) (params_written m.0.0 m.2.0, result_written m.0.1 m.2.1)

abbrev IsHead : FnHead → Type 0
IsHead h = IsName h.name.text × IsSignature h.signature

head_written : (h : FnHead) → Made fn_head 0 h → IsHead h
unfolding fn_head fn_name generic bounded
head_written h m = subst IsHead (sym m.1) (name_named m.0.1.0 m.2.1.0, signature_written m.0.1.1.1.0 m.2.1.1.1.0)

function_written : (f : Function) → Made function 0 f → IsWrittenFunction f
unfolding function
function_written f m =
    let h = m.0.0 in
    let head = head_written h m.2.0 in
    let inner = body_written (first_let h) m.0.1 m.2.1 in
    let params = head.1.0.0 in
    let few = inner.few in
    subst IsWrittenFunction (sym m.1) (record {
      named = head.0;
      params = head.1.0.1;
      result = head.1.1;
      lets = inner.lets;
      few_locals = omega (arith, params, few);
      some_block = inner.blocks.some;
      few_blocks = inner.blocks.few;
      blocks = inner.blocks.each;
    })

value_written : (d : DefinitionForm) → Made value_definition 0 d → IsWrittenDefinition d
unfolding value_definition
value_written d (inl m) = subst IsWrittenDefinition (sym m.1) tt
value_written d (inr (inl m)) = subst IsWrittenDefinition (sym m.1) tt
value_written d (inr (inr m)) = subst IsWrittenDefinition (sym m.1) (function_written m.0 m.2)

form_written : (d : DefinitionForm) → Made definition_form 0 d → IsWrittenDefinition d
unfolding definition_form
form_written d (inl m) = subst IsWrittenDefinition (sym m.1) tt
form_written d (inr (inl m)) = subst IsWrittenDefinition (sym m.1) tt
form_written d (inr (inr (inl m))) = subst IsWrittenDefinition (sym m.1) tt
form_written d (inr (inr (inr (inl m)))) = subst IsWrittenDefinition (sym m.1) tt
form_written d (inr (inr (inr (inr m)))) = value_written d m

definition_written : (d : Definition) → Made definition 0 d → IsWrittenDefinition d.form
unfolding definition
definition_written d m = subst (λ (e : Definition). IsWrittenDefinition e.form) (sym m.1) (form_written m.0.1 m.2.1)

-- ---- items

paired : (is : List items.Item) → All IsWrittenItem is → List ((i : items.Item) × IsWrittenItem i)
paired [] each = []
paired (i ∷ is) each = (i, All-head IsWrittenItem i is each) ∷ paired is (All-tail IsWrittenItem i is each)

paired_are : (is : List items.Item) (each : All IsWrittenItem is) → map (λ e. e.0) (paired is each) ≡ is
unfolding paired
paired_are [] each = refl
paired_are (i ∷ is) each = ap (λ list. i ∷ list) (paired_are is (All-tail IsWrittenItem i is each))

abbrev IsEntry : Entry → Type 0
IsEntry e = IsWrittenForm e.0 e.1 × All IsWrittenItem e.1

item_of : (line : ℕ) (e : Entry) → IsEntry e → IsWrittenItem (roll-Item (record { line = line; form = e.0; items = e.1 }))
unfolding IsWrittenItem paired
item_of line e is =
    every_made-Item IsWrittenHere
    (record { line = line; form = e.0; items = e.1 })
    (record { line = line; form = e.0; items = paired e.1 is.1 })
    (λ i. record { line = line; form = e.0; items = paired_are e.1 is.1 i })
    is.0

entry_written : (e : Entry) → Made entry 0 e → IsEntry e
unfolding entry module_entry
entry_written e (inl m) = subst IsEntry (sym m.1) (name_named m.0.0 m.2.0, m.2.1)
entry_written e (inr (inl m)) = subst IsEntry (sym m.1) (tt, All-nil IsWrittenItem)
entry_written e (inr (inr m)) = subst IsEntry (sym m.1) ((refl, definition_written m.0 m.2), All-nil IsWrittenItem)

item_written : (i : items.Item) → Made item 0 i → IsWrittenItem i
unfolding item
item_written i m = subst IsWrittenItem (sym m.1) (item_of m.0.0 m.0.1 (entry_written m.0.1 m.2))

items_written : (is : List items.Item) → Made more_items 0 is → All IsWrittenItem is
unfolding more_items
items_written is m = all_from-all (λ k. Made item 0) IsWrittenItem (λ k. item_written) 0 is m

braces_written : (is : List items.Item) → Made braces 0 is → All IsWrittenItem is
unfolding braces
braces_written is m = items_written is m

below : (L : List items.Item → List Lexeme → Type 0) → Over IsLexeme L (All IsWrittenItem) → (s : Sort) → Over IsLexeme (module_languages true L s) (IsWrittenPart s)
below L inner Types = type_written
below L inner Terms = λ t ts fine l. tt
below L inner Modules = inner

within_written : (n : ℕ) → Over IsLexeme (within code number_of braces module_languages true n) (All IsWrittenItem)
unfolding within
within_written zero is ts fine s = absurd s
within_written (suc n) is ts fine s =
    let L = within code number_of braces module_languages true n in
    braces_written is (made IsLexeme code number_of IsWrittenPart (module_languages true L) (below L (within_written n)) braces 0 is ts fine s)

-- ---- texts

crate_written : (k : Crate) → Made krate 0 k → IsWrittenCrate k
unfolding krate crate_name
crate_written k m = subst IsWrittenCrate (sym m.1) (record { named = name_named m.0.1.0 m.2.0; items = items_written m.0.1.1 m.2.1 })

crates_written : (ks : List Crate) → Made more_crates 0 ks → All IsWrittenCrate ks
unfolding more_crates
crates_written ks m = all_from-all (λ k. Made krate 0) IsWrittenCrate (λ k. crate_written) 0 ks m

tree_written : (tree : Ast) → Made crates 0 tree → IsWritten tree
unfolding crates
tree_written tree (cs, is, (p, are, (first, others))) =
    subst IsWritten (sym is) (subst (All IsWrittenCrate) (sym are) (All-cons IsWrittenCrate p.0 p.1 (crate_written p.0 first) (crates_written p.1 others)))

fine_all : (ts : List Lexeme) → All IsLexeme ts → every IsLexeme ts
fine_all ts each = by 0 ts each
  where
    by : (k : ℕ) (us : List Lexeme) → All IsLexeme us → all_from (λ i. IsLexeme) k us
    by k [] each = tt
    by k (u ∷ us) each = (All-head IsLexeme u us each, by (k + 1) us (All-tail IsLexeme u us each))

pub text_written : (tree : Ast) (ts : List Lexeme) → All IsLexeme ts → IsText tree ts → IsWritten tree
text_written tree ts each s =
    tree_written tree (made IsLexeme code number_of IsWrittenPart (languages true) (below (in_braces true) (within_written 64)) crates 0 tree ts (fine_all ts each) s)
