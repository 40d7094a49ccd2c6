-- Where definitions stand: what a reference names stands at its place.
use Rattle.std.specs.Prelude.{◌≡◌, ℕ, ◌+◌, List, All, Option, None, Some, slice_get, IfSome}
use Rattle.std.specs.List.{Contains, enumerate_from, find}
use Rattle.std.specs.Option.{option_or}
use Rattle.std.proofs.Common.{◌∙◌, ap, arith, subst}
use Rattle.std.proofs.lemmas.List.Elements.{All-map, All-contains_itself}
use Rattle.mm_objects.specs.declared.objects.ObjUnit.{ObjUnit}
use Rattle.mm_objects.specs.Resolution.{Placed, placed, placed_in, is_own, is_shared, resolve, def_in, def_at, target_of}
use Rattle.mm_terms.proofs.ListLemmas.{All-flat_map, All-enumerate, All-find}

abbrev Stands : List ObjUnit → Placed → Type 0
Stands us one = def_at us (target_of one) ≡ Some one.def

all_stand : (us : List ObjUnit) → All (Stands us) (placed us)
all_stand us =
    All-flat_map (Stands us) placed_in (enumerate_from 0 us)
    (All-enumerate (λ u. All (Stands us) (placed_in u)) us 0 (λ i u at.
    let unit_is : slice_get us (0 + i) ≡ Some u = let e : 0 + i ≡ i = omega arith in ap (slice_get us) e ∙ at in
    All-map (Stands us) (λ d. record { unit = 0 + i; number = d.0; def = d.1 }) (enumerate_from 0 u.defs)
    (All-enumerate (λ d. Stands us (record { unit = 0 + i; number = d.0; def = d.1 })) u.defs 0 (λ k d is.
    let e : 0 + k ≡ k = omega arith in
    ap (def_in (0 + k)) unit_is ∙ ap (slice_get u.defs) e ∙ is))))

either_holds : {A : Type 0} (P : A → Type 0) (o q : Option A) → IfSome o P → IfSome q P → IfSome (option_or o q) P
either_holds P None q here other = other
either_holds P (Some x) q here other = here

-- what a reference names is a definition of the units
pub resolved_among : (us : List ObjUnit) (unit : ℕ) (symbol : List ℕ) (one : Placed) → resolve us unit symbol ≡ Some one → Contains (placed us) one
unfolding resolve
resolved_among us unit symbol one is =
    subst (λ o. IfSome o (Contains (placed us))) is
    (either_holds (Contains (placed us)) (find (is_own unit symbol) (placed us)) (find (is_shared symbol) (placed us))
    (All-find (Contains (placed us)) (is_own unit symbol) (placed us) (All-contains_itself (placed us)))
    (All-find (Contains (placed us)) (is_shared symbol) (placed us) (All-contains_itself (placed us))))

-- a definition of the units stands at its place
pub stands : (us : List ObjUnit) (one : Placed) → Contains (placed us) one → def_at us (target_of one) ≡ Some one.def
stands us one has = subst (Stands us) has.2 (all_stand us has.0 one has.1)
