-- Instances of the functions of a program are items of it.
use Rattle.std.proofs.Common.{ℕ, ◌<◌, List, [], ◌∷◌, ◌++◌, length, map, get_or, sym, subst}
use Rattle.std.specs.Prelude.{All, flat_map}
use Rattle.std.proofs.lemmas.List.Elements.{All-nil, All-cons, All-head, All-tail, All-append, All-same}
use Rattle.std.proofs.lemmas.Option.{slice_get_within}
use Rattle.mm_terms.specs.declared.ty_head.TyHead.{TyHead}
use Rattle.mm_terms.specs.declared.ty_head.TyHead.TheVariants.{Param, U64, Bool, Tuple, Ref, Boxed, FnPtr, FnItem, Closure, Dyn, Adt}
use Rattle.mm_terms.specs.declared.tree.Tree.{Tree}
use Rattle.mm_terms.specs.declared.item.Item.{Item}
use Rattle.mm_terms.specs.declared.item.Item.TheVariants.{Fn, Glue, Shim, Static}
use Rattle.mm_terms.specs.Substitution.{HasNoParam-below}
use Rattle.mm_terms.specs.Tree.{node, children_of, head_of-node, children_of-node, tree_fold-node, tree_ind}
use Rattle.mm_plain.specs.declared.program.Program.{Program}
use Rattle.mm_plain.specs.WellFormed.{NamesNone, NamesNoDefinition, IsTypeUnder, IsInstanceIn}
use Rattle.mm_plain.proofs.PlainLemmas.{plain-head, plain-children}
use Rattle.mm_symbols.specs.ItemForms.{def_of, defs_of, IsTypeIn, IsItemIn}

module _ (P : ℕ → Type 0) where
  own_defs : (head : TyHead) → NamesNone head → All P (def_of head)
  own_defs (Param i) none = All-nil P
  own_defs U64 none = All-nil P
  own_defs Bool none = All-nil P
  own_defs Tuple none = All-nil P
  own_defs Ref none = All-nil P
  own_defs Boxed none = All-nil P
  own_defs FnPtr none = All-nil P
  own_defs (FnItem d) none = absurd none
  own_defs (Closure d) none = absurd none
  own_defs (Dyn d) none = absurd none
  own_defs (Adt d) none = absurd none

  all_defs : (ts : List Tree) → All (λ t. All P (defs_of t)) ts → All P (flat_map (λ ds. ds) (map defs_of ts))
  all_defs [] each = All-nil P
  all_defs (t ∷ ts) each =
      All-append P (defs_of t) (flat_map (λ ds. ds) (map defs_of ts)) (All-head (λ t. All P (defs_of t)) t ts each) (all_defs ts (All-tail (λ t. All P (defs_of t)) t ts each))

  -- where no definition is named, whatever is asked of those that are is so
  no_defs : (t : Tree) → NamesNoDefinition t → All P (defs_of t)
  unfolding defs_of
  no_defs =
      tree_ind (λ t. NamesNoDefinition t → All P (defs_of t))
      (λ head children each plain.
      let t : Tree = node head children in
      let parts : All NamesNoDefinition children = All-same NamesNoDefinition children (children_of t) (sym (children_of-node head children)) (plain-children t plain) in
      All-same P (defs_of t) (def_of head ++ flat_map (λ ds. ds) (map defs_of children)) (tree_fold-node (λ head defs. def_of head ++ flat_map (λ ds. ds) defs) head children)
      (All-append P (def_of head) (flat_map (λ ds. ds) (map defs_of children))
      (own_defs head (subst NamesNone (head_of-node head children) (plain-head t plain)))
      (all_defs children (λ k d within. each k d within (parts k d within)))))

type_in : (p : Program) (t : Tree) → IsTypeUnder 0 t → IsTypeIn p t
type_in p t type = record {
  formed = type.formed;
  plain = HasNoParam-below t type.params;
  defs = no_defs (λ d. d < length p.functions) t type.plain;
}

pub instance_is_item : (p : Program) (x : Item) → IsInstanceIn p x → IsItemIn p x
instance_is_item p (Fn d args) is = record {
  def = All-cons (λ d. d < length p.functions) d.0 [] (slice_get_within p.functions d.0 is.function is.named) (All-nil (λ d. d < length p.functions));
  types = λ k t within. type_in p (get_or args k t) (is.types k t within);
}
instance_is_item p (Glue t) is = absurd is
instance_is_item p (Shim t) is = absurd is
instance_is_item p (Static d) is = absurd is
