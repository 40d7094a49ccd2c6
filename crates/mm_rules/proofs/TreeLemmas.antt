-- The faults of crates, after one more crate.
use Rattle.std.proofs.Common.{◌≡◌, ℕ, ◌+◌, ◌<◌, List, [], ◌∷◌, ◌++◌, length, map, take, drop, get_or, zero, suc, Some, refl, arith, sym, ◌∙◌, ap, subst}
use Rattle.std.proofs.lemmas.List.{append_assoc, append-nil, get_or-map, take_more, take-append-drop}
use Rattle.std.proofs.lemmas.List.Elements.{Contains-append_left, Contains-append_right}
use Rattle.std.proofs.lemmas.Option.{get_or_from_slice_get, slice_get_within}
use Rattle.std.specs.List.{Contains, slice_get}
use Rattle.mm_ast.specs.declared.items.Crate.{Crate}
use Rattle.mm_definitions.specs.declared.named.Named.{Named}
use Rattle.mm_definitions.specs.Definitions.{definitions_in}
use Rattle.mm_mentions.specs.ItemMentions.{mentions_in}
use Rattle.mm_rules.specs.declared.fault.Fault.{Fault}
use Rattle.mm_rules.specs.MentionRules.{faults_in}
use Rattle.mm_rules.specs.TreeFaults.{Reached, entered, behind, all_defined, faults_behind}

behind-append : (reached : Reached) (ks js : List Crate) → behind reached (ks ++ js) ≡ behind (behind reached ks) js
behind-append reached [] js = refl
behind-append reached (k ∷ ks) js = behind-append (entered reached k) ks js

-- the faults of one crate more
abbrev next_faults : Reached → Crate → List Fault
next_faults reached k = faults_in (entered reached k).scope (mentions_in k)

pub faults-append : (reached : Reached) (ks js : List Crate) → faults_behind reached (ks ++ js) ≡ faults_behind reached ks ++ faults_behind (behind reached ks) js
faults-append reached [] js = refl
faults-append reached (k ∷ ks) js =
    ap (λ fs. next_faults reached k ++ fs) (faults-append (entered reached k) ks js)
    ∙ sym (append_assoc (next_faults reached k) (faults_behind (entered reached k) ks) (faults_behind (behind (entered reached k) ks) js))

pub defined-append : (reached : Reached) (ks js : List Crate) → all_defined reached (ks ++ js) ≡ all_defined reached ks ++ all_defined (behind reached ks) js
defined-append reached [] js = refl
defined-append reached (k ∷ ks) js = ap (λ ds. definitions_in reached.count k ∷ ds) (defined-append (entered reached k) ks js)

pub length_defined : (reached : Reached) (ks : List Crate) → length (all_defined reached ks) ≡ length ks
length_defined reached [] = refl
length_defined reached (k ∷ ks) = ap suc (length_defined (entered reached k) ks)

-- what is defined by the crate at an index
pub own_is : (reached : Reached) (crates : List Crate) (i : ℕ) (k : Crate) (own : List Named)
    → i < length crates → k ≡ get_or crates i k → own ≡ get_or (all_defined reached crates) i own → own ≡ definitions_in (behind reached (take i crates)).count k
own_is reached [] i k own within at is = let no : ⊥ = omega (arith, within) in absurd no
own_is reached (j ∷ js) zero k own within at is = is ∙ ap (definitions_in reached.count) (sym at)
own_is reached (j ∷ js) (suc i) k own within at is = own_is (entered reached j) js i k own (omega (arith, within)) at is

module _ (reached : Reached) (crates : List Crate) (i : ℕ) (k : Crate) (within : i < length crates) (at : k ≡ get_or crates i k) where
  took : take (i + 1) crates ≡ take i crates ++ k ∷ []
  took = take_more crates i k within ∙ ap (λ j. take i crates ++ j ∷ []) (sym at)

  pub behind_more : behind reached (take (i + 1) crates) ≡ entered (behind reached (take i crates)) k
  behind_more = ap (behind reached) took ∙ behind-append reached (take i crates) (k ∷ [])

  pub defined_more : all_defined reached (take (i + 1) crates) ≡ all_defined reached (take i crates) ++ definitions_in (behind reached (take i crates)).count k ∷ []
  defined_more = ap (all_defined reached) took ∙ defined-append reached (take i crates) (k ∷ [])

  pub faults_more : (old now new : List Fault) → now ≡ old ++ faults_behind reached (take i crates) → new ≡ now ++ next_faults (behind reached (take i crates)) k → new ≡ old ++ faults_behind reached (take (i + 1) crates)
  faults_more old now new so_far more =
      more
      ∙ ap (λ fs. fs ++ next_faults (behind reached (take i crates)) k) so_far
      ∙ append_assoc old (faults_behind reached (take i crates)) (next_faults (behind reached (take i crates)) k)
      ∙ ap (λ fs. old ++ (faults_behind reached (take i crates) ++ fs)) (sym (append-nil (next_faults (behind reached (take i crates)) k)))
      ∙ ap (λ fs. old ++ fs) (sym (faults-append reached (take i crates) (k ∷ [])))
      ∙ ap (λ ks. old ++ faults_behind reached ks) (sym took)

-- the faults in what the crate at an index mentions are among those of all crates
module _ (reached : Reached) (crates : List Crate) (i : ℕ) (k : Crate) (at : slice_get crates i ≡ Some k) (f : Fault) where
  pub among_faults : Contains (faults_in (behind reached (take (i + 1) crates)).scope (mentions_in k)) f → Contains (faults_behind reached crates) f
  among_faults has =
      let within = slice_get_within crates i k at in
      let is : k ≡ get_or crates i k = sym (get_or_from_slice_get crates i k k at) in
      let before = faults_behind reached (take i crates) in
      let own = next_faults (behind reached (take i crates)) k in
      let here : Contains own f = subst (λ (r : Reached). Contains (faults_in r.scope (mentions_in k)) f) (behind_more reached crates i k within is) has in
      let so_far : Contains (faults_behind reached (take (i + 1) crates)) f =
      subst (λ fs. Contains fs f) (faults_more reached crates i k within is [] before (before ++ own) refl refl) (Contains-append_right before own f here) in
      subst (λ ks. Contains (faults_behind reached ks) f) (take-append-drop (i + 1) crates)
      (subst (λ fs. Contains fs f) (sym (faults-append reached (take (i + 1) crates) (drop (i + 1) crates)))
      (Contains-append_left (faults_behind reached (take (i + 1) crates)) (faults_behind (behind reached (take (i + 1) crates)) (drop (i + 1) crates)) f so_far))
