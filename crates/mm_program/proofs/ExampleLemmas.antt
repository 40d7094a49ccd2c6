-- The small program meets the condition of `build`.
use Rattle.std.specs.Prelude.{◌≡◌, ℕ, zero, suc, ◌<◌, ◌^◌, true, List, [], ◌∷◌, length, All, Some, codes, slice_get, slice_index, nat_lt}
use Rattle.std.specs.List.{list_all}
use Rattle.std.specs.Option.{option_map_or}
use Rattle.std.proofs.Common.{refl, ap, subst, arith}
use Rattle.std.proofs.lemmas.Bool.{ltb-true}
use Rattle.std.proofs.lemmas.List.Elements.{All-nil, All-cons}
use Rattle.std.proofs.lemmas.Str.{IsUtf8-from_ascii}
use Rattle.mm_terms.specs.declared.ids.DefId.{DefId}
use Rattle.mm_terms.specs.declared.tree.Tree.{Tree}
use Rattle.mm_terms.specs.declared.ty_head.TyHead.{TyHead}
use Rattle.mm_terms.specs.declared.ty_head.TyHead.TheVariants as head
use Rattle.mm_terms.specs.Formed.{FitsHead, IsFormed, IsFormed-node}
use Rattle.mm_terms.specs.Length.{length_of-node}
use Rattle.mm_terms.specs.Tree.{node, every-node}
use Rattle.mm_terms.proofs.ListLemmas.{and_left, and_right}
use Rattle.mm_program.specs.declared.kind.DefKind.TheVariants as kind
use Rattle.mm_program.specs.declared.parts.DefPart.{DefPart}
use Rattle.mm_program.specs.declared.term.Term.TheFolds.{every-Term, every_made-Term}
use Rattle.mm_program.specs.declared.term.Term.TheOpen as layer
use Rattle.mm_program.specs.declared.term.Term.TheVariants as term
use Rattle.mm_program.specs.declared.term.Term.TheVariants.{rolls-Num}
use Rattle.mm_program.specs.Bodies.{IsBlockIn, IsBodyIn, IsStatementIn}
use Rattle.mm_program.specs.Code.{IsBlockBelow, IsStatementBelow}
use Rattle.mm_program.specs.Example.{example, returning, main_part, main_body, trait_part, impl_part, static_part, unit_type, number_type}
use Rattle.mm_program.specs.Terms.{IsTermIn, IsTermHere}
use Rattle.mm_program.specs.Types.{IsHeadIn, IsHereIn, IsTypeIn, IsTyHeadIn, HasHeadsIn}
use Rattle.mm_program.specs.Valid.{IsShort, IsText, IsDefinitionIn, IsValid, IsMemberOf, GivesMethod}
use Rattle.mm_program.specs.Views.{kind_of}

-- ---- types without types below

leaf_heads : (n : ℕ) (head : TyHead) → IsTyHeadIn example n head 0 → HasHeadsIn example n (node head [])
unfolding HasHeadsIn
leaf_heads n head is = every-node (IsHereIn example n) head [] is (All-nil (HasHeadsIn example n))

leaf : (n : ℕ) (head : TyHead) → FitsHead head 0 → IsTyHeadIn example n head 0 → IsTypeIn example n (node head [])
leaf n head fits is = record {
  type = record { formed = IsFormed-node head [] fits (All-nil IsFormed); short = omega (arith, length_of-node head []) };
  heads = leaf_heads n head is;
}

unit_is : (n : ℕ) → IsTypeIn example n unit_type
unit_is n = leaf n head.Tuple (omega arith) tt

number_is : (n : ℕ) → IsTypeIn example n number_type
number_is n = leaf n head.U64 refl tt

-- each byte is below 128
below : (bs : List ℕ) → list_all (λ b. nat_lt b 128) bs ≡ true → (i : ℕ) → slice_index bs i < 128
below [] test i = omega arith
below (b ∷ bs) test zero = ltb-true b 128 (and_left (nat_lt b 128) (list_all (λ b. nat_lt b 128) bs) test)
below (b ∷ bs) test (suc i) = below bs (and_right (nat_lt b 128) (list_all (λ b. nat_lt b 128) bs) test) i

text_is : (text : List ℕ) → list_all (λ b. nat_lt b 128) text ≡ true → length text < 2 ^ 32 → IsText text
text_is text test short = record { utf8 = IsUtf8-from_ascii text (below text test); short = short }

-- ---- what the definitions have alike

-- nothing stands in an empty list
none_at : {A : Type 0} (i : ℕ) (d : DefId) → slice_get [] i ≡ Some d → A
none_at i d is = absurd (cc)

-- there is no Drop impl
no_drop_impl : (k : ℕ) → kind_of example (record { 0 = k }) ≡ Some kind.DropImpl → ⊥
no_drop_impl zero is = cc
no_drop_impl (suc zero) is = cc
no_drop_impl (suc (suc zero)) is = cc
no_drop_impl (suc (suc (suc zero))) is = cc
no_drop_impl (suc (suc (suc (suc k)))) is = cc

-- ---- the definitions

main_blocks : All (IsBlockBelow 1 1) main_body.blocks
main_blocks = All-cons (IsBlockBelow 1 1) returning [] (record { few = omega arith; statements = All-nil (IsStatementBelow 1); end = tt }) (All-nil (IsBlockBelow 1 1))

main_blocks_in : All (IsBlockIn example 0) main_body.blocks
main_blocks_in = All-cons (IsBlockIn example 0) returning [] (record { statements = All-nil (IsStatementIn example 0); end = tt }) (All-nil (IsBlockIn example 0))

main_body_is : IsBodyIn example main_part main_body
main_body_is = record {
  body = record { locals = omega arith; few_locals = omega arith; some_block = omega arith; few_blocks = omega arith; blocks = main_blocks };
  params = refl;
  signature = refl;
  locals = All-cons (IsTypeIn example 0) unit_type [] (unit_is 0) (All-nil (IsTypeIn example 0));
  blocks = main_blocks_in;
}

impl_head_is : IsHeadIn example 0 (record { tr = record { 0 = 1 }; args = number_type ∷ [] })
impl_head_is = record { tr = refl; args = record { count = refl; types = All-cons (IsTypeIn example 0) number_type [] (number_is 0) (All-nil (IsTypeIn example 0)) } }

number_term_is : IsTermIn example 0 (term.Num 5)
unfolding IsTermIn
number_term_is = subst (every-Term (IsTermHere example 0)) (rolls-Num 5) (every_made-Term (IsTermHere example 0) (layer.Num 5) (layer.Num 5) refl tt)

main_is : IsDefinitionIn example (record { 0 = 0 }) main_part
main_is = record {
  has = record { parent = refl; head = refl; drop_self = refl; result = refl; term = refl; fields = refl; one_variant = tt; methods = refl; drop_impl = refl; params = tt; bounds = tt; bodies = tt; body = refl };
  short = record { variants = omega arith; fields = All-nil (λ (ts : List Tree). IsShort ts); methods = omega arith; params = omega arith; bounds = omega arith };
  within = record {
    in_crate = omega arith;
    in_module = omega arith;
    path = text_is (codes "m::main") refl (omega arith);
    fields = All-nil (All (IsTypeIn example 0));
    head = tt;
    drop_self = tt;
    params = All-nil (IsTypeIn example 0);
    result = unit_is 0;
    term = tt;
    bounds = All-nil (IsHeadIn example 0);
    body = main_body_is;
  };
  parent = tt;
  methods = All-nil (IsMemberOf example (record { 0 = 0 }) main_part);
  once = λ i j d one other. none_at i d one;
  fits = tt;
  drop_impl = tt;
  no_drop_impl = λ impl is. no_drop_impl impl.0 is.kind;
}

trait_is : IsDefinitionIn example (record { 0 = 1 }) trait_part
trait_is = record {
  has = record { parent = refl; head = refl; drop_self = refl; result = refl; term = refl; fields = refl; one_variant = tt; methods = tt; drop_impl = refl; params = refl; bounds = refl; bodies = refl; body = tt };
  short = record { variants = omega arith; fields = All-nil (λ (ts : List Tree). IsShort ts); methods = omega arith; params = omega arith; bounds = omega arith };
  within = record {
    in_crate = omega arith;
    in_module = omega arith;
    path = text_is (codes "m::T") refl (omega arith);
    fields = All-nil (All (IsTypeIn example 1));
    head = tt;
    drop_self = tt;
    params = All-nil (IsTypeIn example 1);
    result = tt;
    term = tt;
    bounds = All-nil (IsHeadIn example 1);
    body = tt;
  };
  parent = tt;
  methods = All-nil (IsMemberOf example (record { 0 = 1 }) trait_part);
  once = λ i j d one other. none_at i d one;
  fits = omega arith;
  drop_impl = tt;
  no_drop_impl = λ impl is. no_drop_impl impl.0 is.kind;
}

impl_is : IsDefinitionIn example (record { 0 = 2 }) impl_part
impl_is = record {
  has = record { parent = refl; head = refl; drop_self = refl; result = refl; term = refl; fields = refl; one_variant = tt; methods = tt; drop_impl = refl; params = refl; bounds = tt; bodies = refl; body = tt };
  short = record { variants = omega arith; fields = All-nil (λ (ts : List Tree). IsShort ts); methods = omega arith; params = omega arith; bounds = omega arith };
  within = record {
    in_crate = omega arith;
    in_module = omega arith;
    path = text_is [] refl (omega arith);
    fields = All-nil (All (IsTypeIn example 0));
    head = impl_head_is;
    drop_self = tt;
    params = All-nil (IsTypeIn example 0);
    result = tt;
    term = tt;
    bounds = All-nil (IsHeadIn example 0);
    body = tt;
  };
  parent = tt;
  methods = All-nil (IsMemberOf example (record { 0 = 2 }) impl_part);
  once = λ i j d one other. none_at i d one;
  fits = (refl, All-nil (λ m. GivesMethod example (record { 0 = 2 }) m (record { 0 = 1 })));
  drop_impl = tt;
  no_drop_impl = λ impl is. no_drop_impl impl.0 is.kind;
}

static_is : IsDefinitionIn example (record { 0 = 3 }) static_part
static_is = record {
  has = record { parent = refl; head = refl; drop_self = refl; result = refl; term = refl; fields = refl; one_variant = tt; methods = refl; drop_impl = refl; params = refl; bounds = refl; bodies = refl; body = tt };
  short = record { variants = omega arith; fields = All-nil (λ (ts : List Tree). IsShort ts); methods = omega arith; params = omega arith; bounds = omega arith };
  within = record {
    in_crate = omega arith;
    in_module = omega arith;
    path = text_is (codes "m::S") refl (omega arith);
    fields = All-nil (All (IsTypeIn example 0));
    head = tt;
    drop_self = tt;
    params = All-nil (IsTypeIn example 0);
    result = number_is 0;
    term = number_term_is;
    bounds = All-nil (IsHeadIn example 0);
    body = tt;
  };
  parent = tt;
  methods = All-nil (IsMemberOf example (record { 0 = 3 }) static_part);
  once = λ i j d one other. none_at i d one;
  fits = refl;
  drop_impl = tt;
  no_drop_impl = λ impl is. no_drop_impl impl.0 is.kind;
}

same_part : (part other : DefPart) → Some part ≡ Some other → part ≡ other
same_part part other is = ap (λ o. option_map_or (λ x. x) o part) is

def_is : (k : ℕ) (part : DefPart) → slice_get example.defs k ≡ Some part → IsDefinitionIn example (record { 0 = k }) part
def_is zero part is = subst (IsDefinitionIn example (record { 0 = 0 })) (same_part main_part part is) main_is
def_is (suc zero) part is = subst (IsDefinitionIn example (record { 0 = 1 })) (same_part trait_part part is) trait_is
def_is (suc (suc zero)) part is = subst (IsDefinitionIn example (record { 0 = 2 })) (same_part impl_part part is) impl_is
def_is (suc (suc (suc zero))) part is = subst (IsDefinitionIn example (record { 0 = 3 })) (same_part static_part part is) static_is
def_is (suc (suc (suc (suc k)))) part is = absurd (cc)

name_is : All IsText (codes "m" ∷ [])
name_is = All-cons IsText (codes "m") [] (text_is (codes "m") refl (omega arith)) (All-nil IsText)

pub example_is : IsValid example
example_is = record {
  few_crates = omega arith;
  crates = name_is;
  few_modules = omega arith;
  modules = name_is;
  few_defs = omega arith;
  defs = λ d part is. def_is d.0 part is;
  main = refl;
  main_type_params = refl;
  main_params = refl;
}
