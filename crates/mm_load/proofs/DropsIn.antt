-- Each struct and enum has its Drop impl, and no other definition has one.
use Rattle.std.proofs.Common.{◌≡◌, ℕ, ◌+◌, Bool, List, length, Option, None, true, false, option_map, refl, sym, subst, ap, ◌∙◌, arith}
use Rattle.std.proofs.lemmas.Bool.{false≢true, eqb-true, eq-eqb, cond_both}
use Rattle.std.proofs.lemmas.List.FromFn.{length-enumerate_from, get_or-enumerate_from}
use Rattle.std.proofs.lemmas.Option.{none-some, same_Some, slice_get_within, get_or_from_slice_get}
use Rattle.std.proofs.lemmas.List.Elements.{All-contains}
use Rattle.std.specs.List.{enumerate_from, find}
use Rattle.std.specs.Option.{option_map_or}
use Rattle.std.specs.Prelude.{Contains, IfSome, IfNone, Some, slice_get}
use Rattle.mm_ast.specs.declared.items.Ast.{Ast}
use Rattle.mm_ast.specs.declared.items.Crate.{Crate}
use Rattle.mm_lower.specs.Paths.{def_id}
use Rattle.mm_program.specs.declared.kind.DefKind.{DefKind}
use Rattle.mm_program.specs.declared.kind.DefKind.TheVariants as kind
use Rattle.mm_program.specs.declared.parts.DefPart.{DefPart}
use Rattle.mm_program.specs.declared.parts.Parts.{Parts}
use Rattle.mm_program.specs.Kinds.{is_data, is_drop_impl}
use Rattle.mm_program.specs.Types.{IsTyHeadIn, IsHereIn, HasHeadsIn, IsTypeIn}
use Rattle.mm_program.specs.Valid.{IsDropImplOf}
use Rattle.mm_program.specs.Views.{IsOfKinds, kind_of}
use Rattle.mm_rules.specs.TreeFaults.{KeepsRules}
use Rattle.mm_terms.proofs.ListLemmas.{and_left, and_right, and_true, find-Some, find-None, All-enumerate, All-slice_get}
use Rattle.mm_terms.specs.declared.ids.DefId.{DefId}
use Rattle.mm_terms.specs.declared.tree.Tree.{Tree}
use Rattle.mm_terms.specs.declared.ty_head.TyHead.{TyHead}
use Rattle.mm_terms.specs.declared.ty_head.TyHead.TheVariants as head
use Rattle.mm_terms.specs.Tree as tree_of
use Rattle.mm_terms.specs.Tree.{every-head}
use Rattle.mm_written.specs.Written.{is_written}
use Rattle.mm_load.specs.Drops.{is_adt, is_drop_for, first_drop, with_drop}
use Rattle.mm_load.specs.Located.{Located, items_of}
use Rattle.mm_load.specs.Meaning.{parts_at, all_parts, program_of}
use Rattle.mm_load.specs.Modules.{modules_of}
use Rattle.mm_load.proofs.AllMade.{all_made}
use Rattle.mm_load.proofs.InProgram.{shown_made, shown_at}
use Rattle.mm_load.proofs.Made.{IsMade}
use Rattle.mm_load.proofs.Numbered.{part_from}

pub record HasDropImpl (p : Parts) (d : DefId) (part : DefPart) : Type 0 where
  pub drop_impl : IfSome part.drop_impl (IsDropImplOf p d)
  pub no_drop_impl : IfNone part.drop_impl ((impl : DefId) → IsDropImplOf p d impl → ⊥)

-- ---- elements with their places

module _ {X : Type 0} where
  place_of : (xs : List X) (one : ℕ × X) → Contains (enumerate_from 0 xs) one → slice_get xs one.0 ≡ Some one.1
  place_of xs one has =
      All-contains (λ e. slice_get xs e.0 ≡ Some e.1) (enumerate_from 0 xs) one
      (All-enumerate (λ e. slice_get xs e.0 ≡ Some e.1) xs 0 (λ k x at. let e : 0 + k ≡ k = omega arith in ap (slice_get xs) e ∙ at)) has

  placed : (n : ℕ) (xs : List X) (k : ℕ) (x : X) → slice_get xs k ≡ Some x → Contains (enumerate_from n xs) (n + k, x)
  placed n xs k x at =
      let within = slice_get_within xs k x at in
      let as_long = length-enumerate_from n xs in
      let pair : X → ℕ × X = λ y. (n + k, y) in
      (k, omega (arith, within, as_long), get_or-enumerate_from n xs k (n + k, x) within ∙ ap pair (get_or_from_slice_get xs k x x at))

-- ---- the test for a Drop impl of what has the number n

drop_kind : (k : DefKind) → is_drop_impl k ≡ true → k ≡ kind.DropImpl
drop_kind kind.DropImpl is = refl
drop_kind _ is = absurd (false≢true is)

adt_head : (n : ℕ) (h : TyHead) → is_adt n h ≡ true → h ≡ head.Adt (def_id n)
adt_head n (head.Adt d) is = ap (λ k. head.Adt (def_id k)) (eqb-true d.0 n is)
adt_head n _ is = absurd (false≢true is)

-- the self type has it as its head
abbrev heads_adt : ℕ → Option Tree → Type 0
heads_adt n o = option_map tree_of.head_of o ≡ Some (head.Adt (def_id n))

adt_passes : (n : ℕ) (o : Option Tree) → heads_adt n o → option_map_or (λ t. is_adt n (tree_of.head_of t)) o false ≡ true
adt_passes n None is = absurd (none-some (head.Adt (def_id n)) is)
adt_passes n (Some t) is = ap (is_adt n) (same_Some (tree_of.head_of t) (head.Adt (def_id n)) is) ∙ eq-eqb n n refl

passes_adt : (n : ℕ) (o : Option Tree) → option_map_or (λ t. is_adt n (tree_of.head_of t)) o false ≡ true → heads_adt n o
passes_adt n None is = absurd (false≢true is)
passes_adt n (Some t) is = ap Some (adt_head n (tree_of.head_of t) is)

-- ---- Drop impls in the program

-- where a type of the program has it as its head, it is a struct or an enum
known_adt : (p : Parts) (k n : ℕ) (o : Option Tree) → IfSome o (IsTypeIn p k) → heads_adt n o → IsOfKinds p (def_id n) is_data
unfolding HasHeadsIn
known_adt p k n None is heads = absurd (none-some (head.Adt (def_id n)) heads)
known_adt p k n (Some t) is heads =
    let here = every-head (IsHereIn p k) t is.heads in
    let of_adt : IsTyHeadIn p k (head.Adt (def_id n)) (length (tree_of.children_of t)) = subst (λ h. IsTyHeadIn p k h (length (tree_of.children_of t))) (same_Some (tree_of.head_of t) (head.Adt (def_id n)) heads) here in
    of_adt.0

module _ (crates : List Crate) (n : ℕ) where
  abbrev parts : List DefPart
  parts = all_parts crates

  abbrev test : ℕ × DefPart → Bool
  test one = is_drop_for n one.1

  -- what is one by the test is one in the program
  one_in : (one : ℕ × DefPart) → slice_get parts one.0 ≡ Some one.1 → test one ≡ true → IsDropImplOf (program_of crates) (def_id n) (def_id one.0)
  unfolding with_drop
  one_in one at passes =
      let is_kind = and_left (is_drop_impl one.1.kind) (option_map_or (λ t. is_adt n (tree_of.head_of t)) one.1.drop_self false) passes in
      let is_self = and_right (is_drop_impl one.1.kind) (option_map_or (λ t. is_adt n (tree_of.head_of t)) one.1.drop_self false) passes in
      record {
        kind = shown_made crates one.0 (Some one.1) at (λ part. Some part.kind) None ∙ ap Some (drop_kind one.1.kind is_kind);
        self_type = ap (option_map tree_of.head_of) (shown_made crates one.0 (Some one.1) at (λ part. part.drop_self) None) ∙ passes_adt n one.1.drop_self is_self;
      }

  -- what is one in the program is one by the test
  abbrev Made : DefId → Type 0
  Made impl = (q : DefPart) × (slice_get parts impl.0 ≡ Some q) × (q.kind ≡ kind.DropImpl) × heads_adt n q.drop_self

  made : (impl : DefId) → IsDropImplOf (program_of crates) (def_id n) impl → Made impl
  unfolding with_drop
  made impl drop = from (slice_get parts impl.0) refl
    where
      from : (o : Option DefPart) → slice_get parts impl.0 ≡ o → Made impl
      from None is = absurd (none-some kind.DropImpl (sym (shown_made crates impl.0 None is (λ part. Some part.kind) None) ∙ drop.kind))
      from (Some q) is = (
        q,
        is,
        same_Some q.kind kind.DropImpl (sym (shown_made crates impl.0 (Some q) is (λ part. Some part.kind) None) ∙ drop.kind),
        sym (ap (option_map tree_of.head_of) (shown_made crates impl.0 (Some q) is (λ part. part.drop_self) None)) ∙ drop.self_type,
      )

  -- the first one
  first_in : (o : Option (ℕ × DefPart)) → find test (enumerate_from 0 parts) ≡ o → IfSome (option_map (λ one. def_id one.0) o) (IsDropImplOf (program_of crates) (def_id n))
  first_in None is = tt
  first_in (Some one) is =
      let found = find-Some test (enumerate_from 0 parts) one is in
      one_in one (place_of parts one found.0) found.1

  -- or there is none
  none_in : (o : Option (ℕ × DefPart)) → find test (enumerate_from 0 parts) ≡ o → IfNone (option_map (λ one. def_id one.0) o) ((impl : DefId) → IsDropImplOf (program_of crates) (def_id n) impl → ⊥)
  none_in (Some one) is = tt
  none_in None is = λ impl drop.
      let q = made impl drop in
      let there : Contains (enumerate_from 0 parts) (impl.0, q.0) = let e : 0 + impl.0 ≡ impl.0 = omega arith in subst (λ k. Contains (enumerate_from 0 parts) (k, q.0)) e (placed 0 parts impl.0 q.0 q.1) in
      find-None test (enumerate_from 0 parts) (impl.0, q.0) is there
      (and_true (is_drop_impl q.0.kind) (option_map_or (λ t. is_adt n (tree_of.head_of t)) q.0.drop_self false) (ap is_drop_impl q.2) (adt_passes n q.0.drop_self q.3))

-- what a Drop impl is for is a struct or an enum
module _ (tree : Ast) (written : is_written tree ≡ true) (kept : KeepsRules tree) (n : ℕ) where
  for_adt : (impl : DefId) → IsDropImplOf (program_of tree.crates) (def_id n) impl → IsOfKinds (program_of tree.crates) (def_id n) is_data
  for_adt impl drop =
      let q = made tree.crates n impl drop in
      let origin = part_from tree.crates impl.0 q.0 q.1 in
      let is = All-slice_get (IsMade (program_of tree.crates)) (parts_at (modules_of tree.crates) origin.item) origin.place q.0 (all_made tree written kept origin.item origin.among) origin.there in
      known_adt (program_of tree.crates) q.0.type_params n q.0.drop_self is.drop_self q.3

pub drops_in : (tree : Ast) → is_written tree ≡ true → KeepsRules tree → (l : Located) → Contains (items_of tree.crates) l → (i : ℕ) (part : DefPart) → slice_get (parts_at (modules_of tree.crates) l) i ≡ Some part
    → HasDropImpl (program_of tree.crates) (def_id (l.number + i)) (with_drop (all_parts tree.crates) (l.number + i, part))
unfolding with_drop
drops_in tree written kept l has i part at =
    let n = l.number + i in
    let p = program_of tree.crates in
    let first = first_drop (all_parts tree.crates) n in
    let found = find (test tree.crates n) (enumerate_from 0 (all_parts tree.crates)) in
    record {
      drop_impl = cond_both (is_data part.kind) first None (λ o. IfSome o (IsDropImplOf p (def_id n))) (λ is. first_in tree.crates n found refl) (λ is_not. tt);
      no_drop_impl = cond_both (is_data part.kind) first None (λ o. IfNone o ((impl : DefId) → IsDropImplOf p (def_id n) impl → ⊥)) (λ is. none_in tree.crates n found refl) (λ is_not impl drop.
          let shows : kind_of p (def_id n) ≡ Some part.kind = shown_at tree.crates l i part has at n refl (λ q. Some q.kind) None in
          let is : Some (is_data part.kind) ≡ Some true = sym (ap (option_map is_data) shows) ∙ for_adt tree written kept n impl drop in
          false≢true (sym is_not ∙ same_Some (is_data part.kind) true is));
    }
