-- What is written for a type, by its head.
use Rattle.std.proofs.Common.{◌≡◌, ℕ, ◌-◌, List, [], ◌∷◌, ◌++◌, length, map, take, drop, Result, Ok, Err, OnOk, refl, sym, ◌∙◌, ap, subst}
use Rattle.std.proofs.lemmas.List.{append_assoc, length-map, take-map, drop-map}
use Rattle.mm_names.specs.declared.word.Word.TheVariants as words
use Rattle.mm_lex.specs.declared.punct.Punct.TheVariants as puncts
use Rattle.mm_lex.specs.Lexemes.{LexemeKind, Word, Punct}
use Rattle.mm_ast.specs.declared.types.Type as types
use Rattle.mm_ast.specs.declared.types.Type.TheViews.{out-Type}
use Rattle.mm_ast.specs.declared.types.Type.TheFolds.{fold_out-Type}
use Rattle.mm_ast.specs.declared.types.Head.{Head}
use Rattle.mm_ast.specs.declared.types.Head.TheVariants as heads
use Rattle.mm_spell.specs.Listed.{listed, in_parens}
use Rattle.mm_spell.specs.TypeTokens.{head_tokens, fn_pointer_tokens, type_tokens, types_tokens}

pub type_tokens-parts : (t : types.«Type») → type_tokens t ≡ head_tokens (out-Type t).head (map type_tokens (out-Type t).children)
unfolding type_tokens
type_tokens-parts t = fold_out-Type (List LexemeKind) (λ layer. head_tokens layer.head layer.children) t

-- what is written by the head and the children is what is written for the type
pub written_as : {A E : Type 0} (t : types.«Type») (head : Head) (children : List types.«Type») → (out-Type t).head ≡ head → children ≡ (out-Type t).children
    → (r : Result A E) (new old : List LexemeKind) → OnOk r (new ≡ old ++ head_tokens head (map type_tokens children)) → OnOk r (new ≡ old ++ type_tokens t)
written_as t head children is are r new old =
    subst (λ tokens. OnOk r (new ≡ old ++ tokens)) (ap (λ ts. head_tokens head (map type_tokens ts)) are ∙ ap (λ h. head_tokens h (map type_tokens (out-Type t).children)) (sym is) ∙ sym (type_tokens-parts t))

-- tokens behind other ones
pub behind : {A E : Type 0} (r : Result A E) (new middle old front back : List LexemeKind) → middle ≡ old ++ front → OnOk r (new ≡ middle ++ back) → OnOk r (new ≡ old ++ (front ++ back))
behind (Ok x) new middle old front back is all = all ∙ ap (λ tokens. tokens ++ back) is ∙ append_assoc old front back
behind (Err e) new middle old front back is all = tt

-- the last of the types is the result
pub fn_pointer_is : (children params result : List types.«Type») (n : ℕ) → n ≡ length children - 1 → params ≡ take n children → result ≡ drop n children
    → Word words.FnPtr ∷ (in_parens (types_tokens params) ++ Punct puncts.Arrow ∷ types_tokens result) ≡ fn_pointer_tokens (map type_tokens children)
fn_pointer_is children params result n is front back =
    let all : List (List LexemeKind) = map type_tokens children in
    let m : n ≡ length all - 1 = is ∙ ap (λ k. k - 1) (sym (length-map children type_tokens)) in
    let firsts : map type_tokens params ≡ take (length all - 1) all =
    ap (map type_tokens) front ∙ sym (take-map type_tokens n children) ∙ ap (λ k. take k all) m in
    let last : map type_tokens result ≡ drop (length all - 1) all =
    ap (map type_tokens) back ∙ sym (drop-map type_tokens n children) ∙ ap (λ k. drop k all) m in
    λ i. Word words.FnPtr ∷ (in_parens (listed (firsts i)) ++ Punct puncts.Arrow ∷ listed (last i))
