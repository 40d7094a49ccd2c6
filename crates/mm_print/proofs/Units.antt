-- The type `()` is told by the tokens that are written for it.
use Rattle.std.proofs.Common.{◌≡◌, ℕ, ◌+◌, List, [], ◌∷◌, ◌++◌, length, map, Bool, true, false, cond, Option, None, Some, refl, sym, ap, ◌∙◌, arith}
use Rattle.std.proofs.lemmas.List.{length-append}
use Rattle.mm_lex.specs.declared.punct.Punct.TheVariants as puncts
use Rattle.mm_lex.specs.Lexemes.{LexemeKind, Punct}
use Rattle.mm_ast.specs.declared.types.Type as types
use Rattle.mm_ast.specs.declared.types.Type.TheViews.{out-Type}
use Rattle.mm_ast.specs.declared.types.Head.{Head}
use Rattle.mm_ast.specs.declared.types.Head.TheVariants as heads
use Rattle.mm_grammar.specs.ItemGrammar.{is_unit, result_of}
use Rattle.mm_spell.specs.TypeTokens.{head_tokens, type_tokens}
use Rattle.mm_spell.proofs.Heads.{type_tokens-parts}
use Rattle.mm_print.specs.ItemTokens.{result_tokens}

-- each type is written with some token
some_token : (h : Head) (children : List (List LexemeKind)) → head_tokens h children ≡ [] → ⊥
some_token (heads.Param text) children is = cc
some_token (heads.Adt p) children is = cc
some_token _ children is = cc

some_type_token : (t : types.«Type») → type_tokens t ≡ [] → ⊥
some_type_token t is = some_token (out-Type t).head (map type_tokens (out-Type t).children) (sym (type_tokens-parts t) ∙ is)

no_tokens : {A : Type 0} (xs : List A) → length xs ≡ 0 → xs ≡ []
no_tokens [] is = refl
no_tokens (x ∷ xs) is = cc

-- what stands in parentheses, where nothing does
nothing_within : (xs ys : List LexemeKind) (before after : LexemeKind) → before ∷ ((xs ++ ys) ++ after ∷ []) ≡ before ∷ after ∷ [] → xs ≡ []
nothing_within xs ys before after is =
    let whole = ap length is in
    let l = length-append (xs ++ ys) (after ∷ []) in
    let m = length-append xs ys in
    no_tokens xs (omega (arith, whole, l, m))

unit_tokens : List LexemeKind
unit_tokens = Punct puncts.Open ∷ Punct puncts.Close ∷ []

head_is_unit : (h : Head) (children : List types.«Type») → head_tokens h (map type_tokens children) ≡ unit_tokens → is_unit h children ≡ true
unfolding unit_tokens
head_is_unit heads.Tuple [] is = refl
head_is_unit heads.Tuple (t ∷ ts) is = absurd (some_type_token t (nothing_within (type_tokens t) _ (Punct puncts.Open) (Punct puncts.Close) is))
head_is_unit (heads.Param text) children is = cc
head_is_unit (heads.Adt p) children is = cc
head_is_unit _ children is = cc

unit_is_written : (h : Head) (children : List types.«Type») → is_unit h children ≡ true → head_tokens h (map type_tokens children) ≡ unit_tokens
unfolding unit_tokens
unit_is_written heads.Tuple [] is = refl
unit_is_written heads.Tuple (t ∷ ts) is = cc
unit_is_written _ children is = cc

abbrev unit : types.«Type» → Bool
unit t = is_unit (out-Type t).head (out-Type t).children

unit_too : (t u : types.«Type») → type_tokens t ≡ type_tokens u → unit t ≡ true → unit u ≡ true
unit_too t u same is =
    head_is_unit (out-Type u).head (out-Type u).children
    (sym (type_tokens-parts u) ∙ sym same ∙ type_tokens-parts t ∙ unit_is_written (out-Type t).head (out-Type t).children is)

both_or_none : (b c : Bool) → (b ≡ true → c ≡ true) → (c ≡ true → b ≡ true) → b ≡ c
both_or_none true c there back = sym (there refl)
both_or_none false true there back = back refl
both_or_none false false there back = refl

shown : (b c : Bool) (t u : types.«Type») → b ≡ c → type_tokens t ≡ type_tokens u → result_tokens (cond b None (Some t)) ≡ result_tokens (cond c None (Some u))
shown true true t u is same = refl
shown true false t u is same = cc
shown false true t u is same = cc
shown false false t u is same = ap (λ ks. Punct puncts.Arrow ∷ ks) same

-- two results of the same tokens are written alike
pub results_same_by : (t u : types.«Type») → type_tokens t ≡ type_tokens u → result_tokens (result_of (Some t)) ≡ result_tokens (result_of (Some u))
results_same_by t u same = shown (unit t) (unit u) t u (both_or_none (unit t) (unit u) (unit_too t u same) (unit_too u t (sym same))) same
