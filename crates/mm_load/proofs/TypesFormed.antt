-- A written type with its names looked up is a type.
use Rattle.std.proofs.Common.{◌≡◌, ℕ, ◌+◌, true, nat_eq, List, [], ◌∷◌, length, map, sum, refl, sym, ap, subst, ◌∙◌, arith}
use Rattle.std.specs.List.{list_all}
use Rattle.std.specs.Prelude.{All}
use Rattle.std.proofs.lemmas.Bool.{eqb-true, eqb-false, not-true}
use Rattle.std.proofs.lemmas.List.{length-map}
use Rattle.std.proofs.lemmas.List.Elements.{All-head, All-tail, All-map}
use Rattle.std.proofs.lemmas.List.Sums.{AllPass-from_list_all}
use Rattle.mm_ast.specs.declared.types.Head.{Head}
use Rattle.mm_ast.specs.declared.types.Head.TheVariants as heads
use Rattle.mm_ast.specs.declared.types.Type as types
use Rattle.mm_definitions.specs.Trees as trees
use Rattle.mm_lower.specs.Params.{Params}
use Rattle.mm_lower.specs.Paths.{Paths}
use Rattle.mm_lower.specs.Types.{head_of, type_of, types_of}
use Rattle.mm_lower.proofs.TypeLemmas.{type_of_parts}
use Rattle.mm_terms.specs.Formed.{FitsHead, IsFormed, IsType, IsFormed-node}
use Rattle.mm_terms.specs.Length.{length_of, lengths_of, length_of-node}
use Rattle.mm_terms.proofs.ListLemmas.{and_left, and_right, All-both, All-from_contains}
use Rattle.mm_written.specs.Types.{takes, formed, constructors, constructors_in, written_type}
use Rattle.mm_written.proofs.TypeLemmas.{formed-parts, constructors-parts, written_type-is}
use Rattle.mm_load.proofs.TypeInduction.{type_ind}

module _ (paths : Paths) (params : Params) where
  -- a head takes as many children as it did
  fits : (head : Head) (n : ℕ) → takes head n ≡ true → FitsHead (head_of paths params head) n
  unfolding head_of
  fits (heads.Param name) n is = eqb-true n 0 is
  fits heads.SelfType n is = eqb-true n 0 is
  fits heads.U64 n is = eqb-true n 0 is
  fits heads.Bool n is = eqb-true n 0 is
  fits heads.Tuple n is = eqb-false n 1 (not-true (nat_eq n 1) is)
  fits heads.Ref n is = eqb-true n 1 is
  fits heads.Boxed n is = eqb-true n 1 is
  fits heads.FnPtr n is = eqb-false n 0 (not-true (nat_eq n 0) is)
  fits (heads.FnItem path) n is = tt
  fits (heads.Closure path) n is = tt
  fits (heads.Dyn path) n is = tt
  fits (heads.Adt path) n is = tt

  -- each head takes its children
  abbrev StaysFormed : types.«Type» → Type 0
  StaysFormed t = formed t ≡ true → IsFormed (type_of paths params t)

  formed_above : (t : types.«Type») → All StaysFormed (trees.children_of t) → StaysFormed t
  formed_above t each is =
      let children = trees.children_of t in
      let here = sym (formed-parts t) ∙ is in
      let takes_them = and_left (takes (trees.head_of t) (length children)) (list_all formed children) here in
      let all_formed : All (λ c. formed c ≡ true) children = AllPass-from_list_all formed children (and_right (takes (trees.head_of t) (length children)) (list_all formed children) here) in
      let below : All (λ c. IsFormed (type_of paths params c)) children =
      All-both StaysFormed (λ c. formed c ≡ true) (λ c. IsFormed (type_of paths params c)) (λ c stays was. stays was) children each all_formed
      in
      let many : FitsHead (head_of paths params (trees.head_of t)) (length (map (type_of paths params) children)) =
      subst (FitsHead (head_of paths params (trees.head_of t))) (sym (length-map children (type_of paths params))) (fits (trees.head_of t) (length children) takes_them)
      in
      subst IsFormed (sym (type_of_parts paths params t))
      (IsFormed-node (head_of paths params (trees.head_of t)) (map (type_of paths params) children) many (All-map IsFormed (type_of paths params) children below))

  -- it is as long as it was
  abbrev StaysLong : types.«Type» → Type 0
  StaysLong t = length_of (type_of paths params t) ≡ constructors t

  lengths : (ts : List types.«Type») → All StaysLong ts → map length_of (map (type_of paths params) ts) ≡ map constructors ts
  lengths [] all = refl
  lengths (t ∷ ts) all =
      let here : StaysLong t = All-head StaysLong t ts all in
      let rest = lengths ts (All-tail StaysLong t ts all) in
      (λ i. here i ∷ rest i)

  long_above : (t : types.«Type») → All StaysLong (trees.children_of t) → StaysLong t
  long_above t each =
      ap length_of (type_of_parts paths params t)
      ∙ length_of-node (head_of paths params (trees.head_of t)) (map (type_of paths params) (trees.children_of t))
      ∙ ap (λ ns. 1 + sum ns) (lengths (trees.children_of t) each)
      ∙ sym (constructors-parts t)

type_long : (paths : Paths) (params : Params) (t : types.«Type») → length_of (type_of paths params t) ≡ constructors t
type_long paths params = type_ind (StaysLong paths params) (long_above paths params)

-- together they are as long as they were
pub types_long : (paths : Paths) (params : Params) (ts : List types.«Type») → lengths_of (types_of paths params ts) ≡ constructors_in ts
types_long paths params ts = ap (λ ns. sum ns) (lengths paths params ts (All-from_contains (StaysLong paths params) ts (λ t has. type_long paths params t)))

pub type_formed : (paths : Paths) (params : Params) (t : types.«Type») → written_type t ≡ true → IsType (type_of paths params t)
type_formed paths params t written =
    let is = written_type-is t written in
    record {
      formed = type_ind (StaysFormed paths params) (formed_above paths params) t is.0;
      short = omega (arith, is.1, type_long paths params t);
    }
