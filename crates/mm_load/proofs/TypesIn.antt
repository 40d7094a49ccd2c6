-- Written types whose names break no rule are types of the program.
use Rattle.std.proofs.Common.{◌≡◌, ℕ, List, [], ◌∷◌, Bool, true, false, None, length, map, sym, subst, arith}
use Rattle.std.specs.List.{list_all}
use Rattle.std.specs.Prelude.{All}
use Rattle.std.proofs.lemmas.List.{length-map}
use Rattle.std.proofs.lemmas.List.Elements.{All-head, All-map}
use Rattle.std.proofs.lemmas.List.Sums.{AllPass-from_list_all}
use Rattle.mm_ast.specs.declared.types.Head.{Head}
use Rattle.mm_ast.specs.declared.types.Head.TheVariants as heads
use Rattle.mm_ast.specs.declared.types.Type as types
use Rattle.mm_definitions.specs.declared.kinds.Kind.TheVariants as kinds
use Rattle.mm_definitions.specs.declared.kinds.Wanted.TheVariants as wants
use Rattle.mm_definitions.specs.Paths.{path_named}
use Rattle.mm_definitions.specs.Trees as trees
use Rattle.mm_lower.specs.Params.{Params}
use Rattle.mm_lower.specs.Types.{head_of, type_of, types_of}
use Rattle.mm_lower.proofs.TypeLemmas.{type_of_parts}
use Rattle.mm_mentions.proofs.TypeLemmas.{names_in_parts}
use Rattle.mm_mentions.specs.declared.mention.Mention.{Mention}
use Rattle.mm_mentions.specs.declared.mention.What.TheVariants as whats
use Rattle.mm_mentions.specs.Mentions.{at}
use Rattle.mm_mentions.specs.Scopes as mentions
use Rattle.mm_mentions.specs.TypeMentions as mentioned
use Rattle.mm_mentions.specs.TypeMentions.{dyn_mentions, head_mentions, names_in, names_in_all}
use Rattle.mm_program.specs.declared.parts.Parts.{Parts}
use Rattle.mm_program.specs.Types.{HasHeadsIn, IsHereIn, IsTyHeadIn, IsTypeIn}
use Rattle.mm_resolve.specs.Scopes.{Scope, leads_to}
use Rattle.mm_rules.specs.MentionRules.{broken}
use Rattle.mm_terms.specs.declared.tree.Tree.{Tree}
use Rattle.mm_terms.specs.declared.ty_head.TyHead.{TyHead}
use Rattle.mm_terms.specs.Lists.{All-apart}
use Rattle.mm_terms.specs.Tree.{node, every-node}
use Rattle.mm_terms.proofs.ListLemmas.{and_right, All-both, All-from_flat_map}
use Rattle.mm_written.specs.Lists.{few}
use Rattle.mm_written.specs.Types.{written_type, written_types}
use Rattle.mm_load.specs.Leads.{Leads, Kept, InScope}
use Rattle.mm_load.proofs.MentionsKept.{is_known}
use Rattle.mm_load.proofs.NamedIn.{path_kept, function_in, closure_in, trait_named, adt_in}
use Rattle.mm_load.proofs.TypeInduction.{type_ind}
use Rattle.mm_load.proofs.TypesFormed.{type_formed}

-- a head of the program over types of the program
pub heads_above : (p : Parts) (n : ℕ) (head : TyHead) (children : List Tree) → IsTyHeadIn p n head (length children) → All (HasHeadsIn p n) children → HasHeadsIn p n (node head children)
unfolding HasHeadsIn
heads_above p n = every-node (IsHereIn p n)

-- a type for itself: the names in it
names_kept : (scope : Scope) (names : mentions.Scope) (t : types.«Type») → Kept scope (mentioned.written_type names t) → Kept scope (names_in false names t)
unfolding mentioned.written_type
names_kept scope names t kept =
    (All-apart (λ m. broken scope m.what ≡ []) (names_in false names t) (at (trees.line_of t) (whats.«Type» (mentioned.constructors t)) ∷ []) kept).0

pub each_written : (ts : List types.«Type») → written_types ts ≡ true → list_all written_type ts ≡ true
unfolding written_types
each_written ts written = and_right (few ts) (list_all written_type ts) written

module _ (p : Parts) (scope : Scope) (leads : Leads p (leads_to scope)) (names : mentions.Scope) (params : Params) (n : ℕ) (in_scope : InScope names params n) where
  known : (line : ℕ) (is : Bool) → Kept scope (at line (whats.Scoped is) ∷ []) → is ≡ true
  known line is kept = is_known scope is (All-head (λ m. broken scope m.what ≡ []) (at line (whats.Scoped is)) [] kept)

  -- a head over so many types
  head_in : (in_where : Bool) (line : ℕ) (head : Head) (k : ℕ) → Kept scope (head_mentions in_where names line head k) → IsTyHeadIn p n (head_of (leads_to scope) params head) k
  unfolding head_mentions head_of
  head_in in_where line (heads.Param name) k kept = in_scope.param name (known line (names.param name) kept)
  head_in in_where line heads.SelfType k kept = in_scope.self_type (known line names.has_self kept)
  head_in in_where line heads.U64 k kept = tt
  head_in in_where line heads.Bool k kept = tt
  head_in in_where line heads.Tuple k kept = tt
  head_in in_where line heads.Ref k kept = tt
  head_in in_where line heads.Boxed k kept = tt
  head_in in_where line heads.FnPtr k kept = tt
  head_in in_where line (heads.FnItem path) k kept = function_in p scope leads (path_named path) k None (path_kept scope (wants.One kinds.Function) path k None [] kept)
  head_in in_where line (heads.Closure path) k kept = closure_in p scope leads (path_named path) k None (path_kept scope (wants.One kinds.Closure) path k None [] kept)
  head_in in_where line (heads.Dyn path) k kept =
      let is = trait_named p scope leads (path_named path) k None (path_kept scope (wants.One kinds.Trait) path k None (dyn_mentions in_where line path) kept) in
      (is.0, omega (arith, is.1))
  head_in in_where line (heads.Adt path) k kept = adt_in p scope leads (path_named path) k None (path_kept scope wants.Adt path k None [] kept)

  -- the names in it are in the program
  abbrev AreNamesIn : Bool → types.«Type» → Type 0
  AreNamesIn in_where t = Kept scope (names_in in_where names t) → HasHeadsIn p n (type_of (leads_to scope) params t)

  names_above : (in_where : Bool) (t : types.«Type») → All (AreNamesIn in_where) (trees.children_of t) → AreNamesIn in_where t
  names_above in_where t each kept =
      let IsKept : Mention → Type 0 = λ m. broken scope m.what ≡ [] in
      let children = trees.children_of t in
      let lowered = type_of (leads_to scope) params in
      let head = head_of (leads_to scope) params (trees.head_of t) in
      let mentions_here = head_mentions in_where names (trees.line_of t) (trees.head_of t) (length children) in
      let parts = All-apart IsKept mentions_here (names_in_all in_where names children) (subst (Kept scope) (names_in_parts in_where names t) kept) in
      let each_kept : All (λ c. Kept scope (names_in in_where names c)) children = All-from_flat_map IsKept (names_in in_where names) children parts.1 in
      let below : All (λ c. HasHeadsIn p n (lowered c)) children =
      All-both (AreNamesIn in_where) (λ c. Kept scope (names_in in_where names c)) (λ c. HasHeadsIn p n (lowered c)) (λ c are is. are is) children each each_kept
      in
      let here : IsTyHeadIn p n head (length (map lowered children)) =
      subst (IsTyHeadIn p n head) (sym (length-map children lowered)) (head_in in_where (trees.line_of t) (trees.head_of t) (length children) parts.0)
      in
      subst (HasHeadsIn p n) (sym (type_of_parts (leads_to scope) params t)) (heads_above p n head (map lowered children) here (All-map (HasHeadsIn p n) lowered children below))

  -- also in a where clause
  pub type_in : (in_where : Bool) (t : types.«Type») → Kept scope (mentioned.names_in in_where names t) → written_type t ≡ true → IsTypeIn p n (type_of (leads_to scope) params t)
  type_in in_where t kept written = record { type = type_formed (leads_to scope) params t written; heads = type_ind (AreNamesIn in_where) (names_above in_where) t kept }

  pub types_in : (in_where : Bool) (ts : List types.«Type») → Kept scope (mentioned.names_in_all in_where names ts) → list_all written_type ts ≡ true → All (IsTypeIn p n) (types_of (leads_to scope) params ts)
  types_in in_where ts kept written =
      All-map (IsTypeIn p n) (type_of (leads_to scope) params) ts
      (All-both (λ t. Kept scope (names_in in_where names t)) (λ t. written_type t ≡ true) (λ t. IsTypeIn p n (type_of (leads_to scope) params t)) (type_in in_where) ts
      (All-from_flat_map (λ m. broken scope m.what ≡ []) (names_in in_where names) ts kept)
      (AllPass-from_list_all written_type ts written))

  pub written_in : (t : types.«Type») → Kept scope (mentioned.written_type names t) → written_type t ≡ true → IsTypeIn p n (type_of (leads_to scope) params t)
  written_in t kept written = type_in false t (names_kept scope names t kept) written

  pub all_written_in : (ts : List types.«Type») → Kept scope (mentioned.written_types names ts) → written_types ts ≡ true → All (IsTypeIn p n) (types_of (leads_to scope) params ts)
  all_written_in ts kept written =
      All-map (IsTypeIn p n) (type_of (leads_to scope) params) ts
      (All-both (λ t. Kept scope (mentioned.written_type names t)) (λ t. written_type t ≡ true) (λ t. IsTypeIn p n (type_of (leads_to scope) params t)) written_in ts
      (All-from_flat_map (λ m. broken scope m.what ≡ []) (mentioned.written_type names) ts kept)
      (AllPass-from_list_all written_type ts (each_written ts written)))
