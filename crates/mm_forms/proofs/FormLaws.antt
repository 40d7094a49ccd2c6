-- The law of each form in which one token decides.
use Rattle.std.proofs.Common.{◌≡◌, ℕ, ◌-◌, List, [], ◌∷◌, Bool, true, false, ◌&&◌, not}
use Rattle.std.proofs.lemmas.Bool.{and_parts, not-true}
use Rattle.mm_forms.specs.declared.fault.Fault.{Fault}
use Rattle.mm_forms.specs.Language.{Opens}
use Rattle.mm_forms.specs.Forms.{Form, Nothing, Token, Preceded, Terminated, Numbered, Then, Or, Many, ManyNumbered, ManyBelow, Map, At, Below, Inner, has, apart, Read, spells, crosses, empty, firsts, reads, more, decides}
use Rattle.mm_forms.proofs.Laws.{Law, law_nothing, law_made, law_flag}
use Rattle.mm_forms.proofs.TwoParts.{law_then, law_or}
use Rattle.mm_forms.proofs.TokenLaws.{law_token, law_at}
use Rattle.mm_forms.proofs.Parts.{law_skip, law_close, law_count}
use Rattle.mm_forms.proofs.Repetitions.{law_all, law_many}
use Rattle.mm_forms.proofs.Limits.{law_below}

module _ {T : Type 0} (kind number_of : T → ℕ) {S : Type 0} {V : S → Type 0} (start goes_on : S → List ℕ) (is_kind is_counted : ℕ → Bool) (known : S → Bool)
    (sample : (n : ℕ) → is_kind n ≡ true → (t : T) × (kind t ≡ n))
    (counted : (n k : ℕ) → is_counted n ≡ true → (t : T) × (kind t ≡ n) × (number_of t ≡ k))
    (L LB : (s : S) → V s → List T → Type 0) (C : (s : S) → Fault → List T → Type 0) (R : (s : S) → List T → Read T (V s))
    (laws : (s : S) → known s ≡ true → Law kind (L s) (LB s) (C s) (R s) (start s) false (goes_on s))
    (opens : (s : S) → known s ≡ true → (t : T) → has (kind t) (start s) ≡ true → Opens (LB s) (t ∷ [])) where
  abbrev pub Lawful : {A : Type 0} → Form T S V A → ℕ → Type 0
  Lawful f k = Law kind (spells kind number_of true L f k) (spells kind number_of false LB f k) (crosses kind number_of true L (λ s. Opens (LB s)) C f k) (reads kind start number_of R f k) (firsts kind start f) (empty kind start f) (more kind start goes_on is_kind is_counted f)

  abbrev pub Decides : {A : Type 0} → Form T S V A → Type 0
  Decides f = decides kind start goes_on is_kind is_counted known f ≡ true

  pub law_form : {A : Type 0} (f : Form T S V A) → Decides f → (k : ℕ) → Lawful f k
  law_form (Nothing b) d k = law_nothing kind b
  law_form (Token n value) d k = let t = sample n d in law_token kind n value t.0 t.1
  law_form (Preceded n f) d k =
      let p = and_parts (is_kind n) (decides kind start goes_on is_kind is_counted known f) d in
      let t = sample n p.0 in
      law_skip kind n t.0 t.1 (law_form f p.1 k)
  law_form (Terminated f n) d k =
      let p = and_parts (is_kind n && decides kind start goes_on is_kind is_counted known f) (apart (more kind start goes_on is_kind is_counted f) (n ∷ [])) d in
      let q = and_parts (is_kind n) (decides kind start goes_on is_kind is_counted known f) p.0 in
      let t = sample n q.0 in
      law_close kind n t.0 t.1 (law_form f q.1 k) p.1
  law_form (Numbered n f) d k =
      let p = and_parts (is_counted n) (decides kind start goes_on is_kind is_counted known f) d in
      let t = counted n k p.0 in
      law_count kind n number_of k t.0 t.1 t.2 (law_form f p.1 0)
  law_form (Then f number g) d k =
      let p = and_parts (decides kind start goes_on is_kind is_counted known f && decides kind start goes_on is_kind is_counted known g) (apart (more kind start goes_on is_kind is_counted f) (firsts kind start g)) d in
      let q = and_parts (decides kind start goes_on is_kind is_counted known f) (decides kind start goes_on is_kind is_counted known g) p.0 in
      law_then kind (law_form f q.0 k) (λ a. law_form g q.1 (number a)) p.1
  law_form (Or f g) d k =
      let p = and_parts ((decides kind start goes_on is_kind is_counted known f && decides kind start goes_on is_kind is_counted known g) && not (empty kind start f)) (apart (firsts kind start f) (firsts kind start g)) d in
      let r = and_parts (decides kind start goes_on is_kind is_counted known f && decides kind start goes_on is_kind is_counted known g) (not (empty kind start f)) p.0 in
      let q = and_parts (decides kind start goes_on is_kind is_counted known f) (decides kind start goes_on is_kind is_counted known g) r.0 in
      law_or kind (law_form f q.0 k) (law_form g q.1 k) (not-true (empty kind start f) r.1) p.1
  law_form (Many f) d k =
      let p = and_parts (decides kind start goes_on is_kind is_counted known f && not (empty kind start f)) (apart (more kind start goes_on is_kind is_counted f) (firsts kind start f)) d in
      let q = and_parts (decides kind start goes_on is_kind is_counted known f) (not (empty kind start f)) p.0 in
      law_all kind (λ i. law_flag kind (not-true (empty kind start f) q.1) (law_form f q.0 0)) p.1 0
  law_form (ManyNumbered f) d k =
      let p = and_parts (decides kind start goes_on is_kind is_counted known f && not (empty kind start f)) (apart (more kind start goes_on is_kind is_counted f) (firsts kind start f)) d in
      let q = and_parts (decides kind start goes_on is_kind is_counted known f) (not (empty kind start f)) p.0 in
      law_all kind (λ i. law_flag kind (not-true (empty kind start f) q.1) (law_form f q.0 i)) p.1 0
  law_form (ManyBelow most f) d k =
      let p = and_parts (decides kind start goes_on is_kind is_counted known f && not (empty kind start f)) (apart (more kind start goes_on is_kind is_counted f) (firsts kind start f)) d in
      let q = and_parts (decides kind start goes_on is_kind is_counted known f) (not (empty kind start f)) p.0 in
      law_many kind (λ i. law_flag kind (not-true (empty kind start f) q.1) (law_form f q.0 i)) p.1 (most - k) k
  law_form (Map make f) d k = law_made kind make (law_form f d k)
  law_form (At place f) d k =
      let p = and_parts (decides kind start goes_on is_kind is_counted known f) (not (empty kind start f)) d in
      law_at kind place (law_form f p.0 k) (not-true (empty kind start f) p.1)
  law_form (Below most s) d k = law_below kind (laws s d) (opens s d) most k
  law_form (Inner s) d k = laws s d
