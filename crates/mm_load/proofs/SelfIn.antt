-- The reference to a closure's own type, which is the first of its parameters.
use Rattle.std.proofs.Common.{◌≡◌, ℕ, suc, ◌+◌, ◌<◌, ◌≤◌, ◌^◌, ◌∙◌, List, [], ◌∷◌, length, refl, arith}
use Rattle.std.proofs.lemmas.List.Elements.{All-nil, All-cons}
use Rattle.std.specs.List.{All}
use Rattle.mm_ast.specs.declared.names.Name.{Name}
use Rattle.mm_lower.specs.Items.{Site, own_args, self_ref}
use Rattle.mm_lower.specs.Paths.{def_id}
use Rattle.mm_program.specs.declared.kind.DefKind.TheVariants as kind
use Rattle.mm_program.specs.declared.parts.Parts.{Parts}
use Rattle.mm_program.specs.Types.{IsHereIn, IsTypeIn, HasHeadsIn}
use Rattle.mm_program.specs.Views.{IsOfKind, type_params_of}
use Rattle.mm_resolve.specs.Scopes.{Scope, leads_to}
use Rattle.mm_terms.specs.declared.tree.Tree.{Tree}
use Rattle.mm_terms.specs.declared.ty_head.TyHead.TheVariants as head
use Rattle.mm_terms.specs.Formed.{IsFormed, IsFormed-node}
use Rattle.mm_terms.specs.Length.{lengths_of, lengths_of-cons, length_of-node}
use Rattle.mm_terms.specs.Tree.{node, every-node}

-- ---- the type parameters as its arguments

length-own_args : (i : ℕ) (names : List Name) → length (own_args i names) ≡ length names
length-own_args i [] = refl
length-own_args i (name ∷ names) = omega (arith, length-own_args (suc i) names)

-- each is one constructor
lengths_of-own_args : (i : ℕ) (names : List Name) → lengths_of (own_args i names) ≡ length names
lengths_of-own_args i [] = refl
lengths_of-own_args i (name ∷ names) =
    omega (arith, lengths_of-cons (node (head.Param i) []) (own_args (suc i) names), length_of-node (head.Param i) [], lengths_of-own_args (suc i) names)

own_args_formed : (i : ℕ) (names : List Name) → All IsFormed (own_args i names)
own_args_formed i [] = All-nil IsFormed
own_args_formed i (name ∷ names) =
    All-cons IsFormed (node (head.Param i) []) (own_args (suc i) names) (IsFormed-node (head.Param i) [] refl (All-nil IsFormed)) (own_args_formed (suc i) names)

own_args_in : (p : Parts) (n i : ℕ) (names : List Name) → i + length names ≤ n → All (HasHeadsIn p n) (own_args i names)
unfolding HasHeadsIn
own_args_in p n i [] few = All-nil (HasHeadsIn p n)
own_args_in p n i (name ∷ names) few =
    All-cons (HasHeadsIn p n) (node (head.Param i) []) (own_args (suc i) names)
    (every-node (IsHereIn p n) (head.Param i) [] (omega arith) (All-nil (HasHeadsIn p n)))
    (own_args_in p n (suc i) names (omega arith))

-- ---- the type, and the reference to it

module _ (p : Parts) (scope : Scope) (site : Site) (names : List Name) where
  abbrev own_type : Tree
  own_type = node (head.Closure (def_id site.number)) (own_args 0 names)

  own_type_formed : IsFormed own_type
  own_type_formed = IsFormed-node (head.Closure (def_id site.number)) (own_args 0 names) tt (own_args_formed 0 names)

  self_ref_formed : IsFormed (self_ref (leads_to scope) site names)
  self_ref_formed = IsFormed-node head.Ref (own_type ∷ []) refl (All-cons IsFormed own_type [] own_type_formed (All-nil IsFormed))

  module _ (is : IsOfKind p (def_id site.number) kind.Closure) (count : length names ≡ type_params_of p (def_id site.number)) where
    own_type_heads : HasHeadsIn p (length names) own_type
    unfolding HasHeadsIn
    own_type_heads =
        every-node (IsHereIn p (length names)) (head.Closure (def_id site.number)) (own_args 0 names)
        (is, length-own_args 0 names ∙ count) (own_args_in p (length names) 0 names (omega arith))

    self_ref_heads : HasHeadsIn p (length names) (self_ref (leads_to scope) site names)
    unfolding HasHeadsIn
    self_ref_heads =
        every-node (IsHereIn p (length names)) head.Ref (own_type ∷ []) tt
        (All-cons (HasHeadsIn p (length names)) own_type [] own_type_heads (All-nil (HasHeadsIn p (length names))))

    pub self_ref_in : length names + 2 < 2 ^ 32 → IsTypeIn p (length names) (self_ref (leads_to scope) site names)
    self_ref_in few = record {
      type = record {
        formed = self_ref_formed;
        short = omega (arith, few, length_of-node head.Ref (own_type ∷ []), lengths_of-cons own_type [], length_of-node (head.Closure (def_id site.number)) (own_args 0 names), lengths_of-own_args 0 names);
      };
      heads = self_ref_heads;
    }
