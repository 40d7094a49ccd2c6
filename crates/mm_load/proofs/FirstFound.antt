-- What a path leads to among definitions: one of them, of a kind that fits, with this path.
use Rattle.std.proofs.Common.{◌≡◌, ℕ, ◌⊎◌, inl, inr, ⊎_elim, List, Option, None, Some, true, refl, sym}
use Rattle.std.specs.Prelude.{Contains}
use Rattle.std.specs.Option.{option_or}
use Rattle.std.proofs.lemmas.Bool.{false≢true}
use Rattle.mm_definitions.specs.declared.kinds.Kind.{Kind}
use Rattle.mm_definitions.specs.declared.kinds.Kind.TheVariants as kinds
use Rattle.mm_definitions.specs.declared.kinds.Wanted.{Wanted}
use Rattle.mm_definitions.specs.declared.kinds.Wanted.TheVariants as wants
use Rattle.mm_definitions.specs.declared.named.Named.{Named}
use Rattle.mm_definitions.specs.contracts.kinds.KindPartialEq.TheImpl as kind_eq
use Rattle.mm_resolve.specs.Resolving.{is_named, first_of}
use Rattle.mm_resolve.specs.Scopes.{found}
use Rattle.mm_terms.proofs.ListLemmas.{and_left, and_right, find-Some, same_bytes}
use Rattle.mm_load.specs.Leads.{IsWanted}

same_kind : (a b : Kind) → (kind_eq.ghosts).eq a b ≡ true → a ≡ b
same_kind kinds.Function kinds.Function same = refl
same_kind kinds.Closure kinds.Closure same = refl
same_kind kinds.Struct kinds.Struct same = refl
same_kind kinds.Enum kinds.Enum same = refl
same_kind kinds.Variant kinds.Variant same = refl
same_kind kinds.Trait kinds.Trait same = refl
same_kind kinds.Method kinds.Method same = refl
same_kind kinds.Static kinds.Static same = refl
same_kind kinds.Const kinds.Const same = refl
same_kind a b same = absurd (false≢true same)

one_of_two : {X : Type 0} (a b : Option X) (x : X) → option_or a b ≡ Some x → (a ≡ Some x) ⊎ (b ≡ Some x)
one_of_two None b x is = inr is
one_of_two (Some y) b x is = inl is

module _ (ds : List Named) (path : List ℕ) (d : Named) where
  pub record IsFound (w : Wanted) : Type 0 where
    pub wanted : IsWanted w d.kind
    pub among : Contains ds d
    pub spelled : d.path ≡ path

  first_found : (k : Kind) → first_of ds k path ≡ Some d → IsFound (wants.One k)
  first_found k is =
      let has = find-Some (is_named k path) ds d is in
      record { wanted = sym (same_kind k d.kind (and_left _ _ has.1)); among = has.0; spelled = sym (same_bytes path d.path (and_right _ _ has.1)) }

  -- of another kind that fits as well
  either : (w : Wanted) (k : Kind) → (d.kind ≡ k → IsWanted w d.kind) → first_of ds k path ≡ Some d → IsFound w
  either w k fits is = let first = first_found k is in record { wanted = fits first.wanted; among = first.among; spelled = first.spelled }

  pub is_found : (w : Wanted) → found (first_of ds) w path ≡ Some d → IsFound w
  is_found (wants.One k) is = first_found k is
  is_found wants.Adt is = ⊎_elim (either wants.Adt kinds.Struct inl) (either wants.Adt kinds.Enum inr) (one_of_two (first_of ds kinds.Struct path) (first_of ds kinds.Enum path) d is)
  is_found wants.Whole is = ⊎_elim (either wants.Whole kinds.Struct inl) (either wants.Whole kinds.Closure inr) (one_of_two (first_of ds kinds.Struct path) (first_of ds kinds.Closure path) d is)
