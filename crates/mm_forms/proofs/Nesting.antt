-- Parts that nest: the law of each level, and that one too deep goes past the last level.
use Rattle.std.proofs.Common.{◌≡◌, ◌⊎◌, inl, inr, ℕ, zero, suc, ◌≤◌, List, [], ◌∷◌, ◌++◌, Bool, true, false, Err, refl, sym, ◌∙◌, ap, subst, arith}
use Rattle.std.proofs.lemmas.Bool.{cases_Bool, cond-true, cond-false}
use Rattle.mm_forms.specs.declared.fault.Fault.{Fault}
use Rattle.mm_forms.specs.declared.fault.Fault.TheVariants.{Unfit, TooDeep}
use Rattle.mm_forms.specs.Language.{Opens}
use Rattle.mm_forms.specs.Forms.{Form, Read, has, begins, decides, firsts, empty, more, spells, crosses, reads}
use Rattle.mm_forms.specs.Nesting.{within, Nested, beyond, none_in, within_in}
use Rattle.mm_forms.proofs.Numbers.{subset}
use Rattle.mm_forms.proofs.Fronts.{Leads, Told, alike_behind, nothing_before, err_same}
use Rattle.mm_forms.proofs.Laws.{Law, Begins, begins_alike, law_same, law_flag, stops_subset}
use Rattle.mm_forms.proofs.FormLaws.{law_form}
use Rattle.mm_forms.proofs.Spellings.{wider, together, splits, Crossing, begun_form}
use Rattle.mm_forms.proofs.Openings.{ends, free, some_form, opens_form}

-- What is known of a part: its law, that each token of a first kind begins one, and that one past no limit is within the limits.
pub record Part {T A : Type 0} (kind : T → ℕ) (L B : A → List T → Type 0) (C : Fault → List T → Type 0) (read : List T → Read T A) (first more : List ℕ) : Type 0 where
  pub law : Law kind L B C read first false more
  pub opens : (t : T) → has (kind t) first ≡ true → Opens B (t ∷ [])
  pub split : (a : A) (ts : List T) → B a ts → L a ts ⊎ Crossing C ts

-- The parts of one sort, over the parts A of a sort that leads back to itself.
pub record Sorted {T A W : Type 0} (kind : T → ℕ) (starts goes : List ℕ) (language : Bool → (A → List T → Type 0) → W → List T → Type 0)
    (crossing : (Fault → List T → Type 0) → Fault → List T → Type 0) (reader : (List T → Read T A) → List T → Read T W) (first more : List ℕ) (known before : Bool) : Type 1 where
  pub wide : (b : Bool) (L M : A → List T → Type 0) → ((a : A) (ts : List T) → L a ts → M a ts) → (w : W) (ts : List T) → language b L w ts → language false M w ts
  pub finite : (E : ℕ → A → List T → Type 0) (w : W) (ts : List T) → language false (λ a us. (m : ℕ) × E m a us) w ts → (m : ℕ) × language false (E m) w ts
  pub begun : (L : A → List T → Type 0) → ((a : A) (ts : List T) → L a ts → Begins kind starts false ts) → (w : W) (ts : List T) → language false L w ts → Begins kind first false ts
  pub is_known : (L : A → List T → Type 0) (w : W) (ts : List T) → language false L w ts → known ≡ true
  pub part : known ≡ true → (L B : A → List T → Type 0) (C : Fault → List T → Type 0) (read : List T → Read T A) → Part kind L B C read starts goes → Part kind (language true L) (language false B) (crossing C) (reader read) first more
  -- it does not lead back
  pub some : before ≡ true → (B : A → List T → Type 0) → Leads (language false B) []
  pub leads : known ≡ true → (B : A → List T → Type 0) → Leads B [] → Leads (language false B) []
  pub opens : before ≡ true → (B : A → List T → Type 0) (t : T) → has (kind t) first ≡ true → Opens (language false B) (t ∷ [])

module _ {T A : Type 0} {kind : T → ℕ} {starts goes : List ℕ} where
  -- the sort that leads back to itself
  pub itself : Sorted {W = A} kind starts goes (λ b L. L) (λ C. C) (λ read. read) starts goes true false
  itself = record {
    wide = λ b L M w. w;
    finite = λ E w ts s. s;
    begun = λ L b. b;
    is_known = λ L w ts s. refl;
    part = λ k L B C read p. p;
    some = λ h. cc;
    leads = λ h B l. l;
    opens = λ h. cc;
  }

  -- a sort of which all is known before
  pub there : {W : Type 0} {N : Bool → W → List T → Type 0} {C : Fault → List T → Type 0} {read : List T → Read T W} {first more : List ℕ}
      → Part kind (N true) (N false) C read first more → Sorted {A = A} kind starts goes (λ b L. N b) (λ D. C) (λ r. read) first more true true
  there {W = W} {N = N} p = record {
    wide = λ b L M w v ts s. by b v ts s;
    finite = λ E v ts s. (0, s);
    begun = λ L b. p.law.begun;
    is_known = λ L v ts s. refl;
    part = λ k L B D r q. p;
    some = λ h B. p.law.some;
    leads = λ h B l. p.law.some;
    opens = λ h B. p.opens;
  }
    where
      by : (b : Bool) (v : W) (ts : List T) → N b v ts → N false v ts
      by true v ts s = p.law.grows v ts s
      by false v ts s = s

  -- a sort that does not occur
  pub absent : {W : Type 0} {C : (Fault → List T → Type 0) → Fault → List T → Type 0} {read : (List T → Read T A) → List T → Read T W} {first more : List ℕ} → Sorted {A = A} kind starts goes (λ b L w ts. ⊥) C read first more false false
  absent = record {
    wide = λ b L M w v ts s. s;
    finite = λ E v ts s. absurd s;
    begun = λ L b v ts s. absurd s;
    is_known = λ L v ts s. absurd s;
    part = λ h. cc;
    some = λ h. cc;
    leads = λ h. cc;
    opens = λ h. cc;
  }

module _ {T : Type 0} (kind number_of : T → ℕ) {S : Type 0} {V : S → Type 0} (start goes_on : S → List ℕ) (is_kind is_counted : ℕ → Bool) (known : S → Bool)
    (sample : (n : ℕ) → is_kind n ≡ true → (t : T) × (kind t ≡ n))
    (counted : (n k : ℕ) → is_counted n ≡ true → (t : T) × (kind t ≡ n) × (number_of t ≡ k)) where
  abbrev pub Decided : {A : Type 0} → Form T S V A → Type 0
  Decided f = decides kind start goes_on is_kind is_counted known f ≡ true

  -- a form over parts of which all is known
  module _ (L LB : (s : S) → V s → List T → Type 0) (C : (s : S) → Fault → List T → Type 0) (R : (s : S) → List T → Read T (V s))
      (parts : (s : S) → known s ≡ true → Part kind (L s) (LB s) (C s) (R s) (start s) (goes_on s))
      (is_known : (s : S) (v : V s) (ts : List T) → LB s v ts → known s ≡ true) where
    pub form_law : {A : Type 0} (f : Form T S V A) → Decided f → (k : ℕ) → Law kind (spells kind number_of true L f k) (spells kind number_of false LB f k) (crosses kind number_of true L (λ s. Opens (LB s)) C f k) (reads kind start number_of R f k) (firsts kind start f) (empty kind start f) (more kind start goes_on is_kind is_counted f)
    form_law = law_form kind number_of start goes_on is_kind is_counted known sample counted L LB C R (λ s h. (parts s h).law) (λ s h. (parts s h).opens)

    at_first : {A : Type 0} (B : A → List T → Type 0) (first : List ℕ) (a : A) (ts : List T) → B a ts → Begins kind first false ts → (front : List T) × (behind : List T) × (ts ≡ front ++ behind) × Opens B front
    at_first B first a [] s b = cc
    at_first B first a (t ∷ ts) s b = (t ∷ [], ts, refl, record { token = t; is = refl; thing = a; behind = ts; spelled = s })

    pub form_split : {A : Type 0} (f : Form T S V A) (k : ℕ) (a : A) (ts : List T) → spells kind number_of false LB f k a ts → spells kind number_of true L f k a ts ⊎ Crossing (crosses kind number_of true L (λ s. Opens (LB s)) C f k) ts
    form_split = splits kind number_of L LB C
        (λ s v ts h. (parts s (is_known s v ts h)).split v ts h)
        (λ s v ts h. at_first (LB s) (start s) v ts h ((parts s (is_known s v ts h)).law.begun v ts h))

  -- One token decides how a level is read, these are the kinds with which it begins and those that would go on with it, and
  -- something spells it without parts of its own sort, with which it does not begin.
  pub record Fits {A : Type 0} (level : Form T S V A) (starts goes : List ℕ) (before : S → Bool) : Type 0 where
    pub decided : Decided level
    pub full : empty kind start level ≡ false
    pub begins_so : firsts kind start level ≡ starts
    pub goes_on_so : subset (more kind start goes_on is_kind is_counted level) goes ≡ true
    pub ends_before : ends before level ≡ true
    pub free_before : free kind start before level ≡ true

  -- a part that leads back to itself
  module _ {A : Type 0} (level : Form T S V A) (starts goes : List ℕ)
      (languages : Bool → (A → List T → Type 0) → (s : S) → V s → List T → Type 0) (crossings : (Fault → List T → Type 0) → S → Fault → List T → Type 0) (readers : (List T → Read T A) → (s : S) → List T → Read T (V s))
      (before : S → Bool)
      (sorts : (s : S) → Sorted kind starts goes (λ b L. languages b L s) (λ D. crossings D s) (λ r. readers r s) (start s) (goes_on s) (known s) (before s))
      (fits : Fits level starts goes before) where
    abbrev In : Bool → ℕ → A → List T → Type 0
    In limited n = within kind number_of level languages limited n

    abbrev All : A → List T → Type 0
    All = Nested kind number_of level languages

    abbrev Cross : ℕ → Fault → List T → Type 0
    Cross n = beyond kind number_of level languages crossings n

    abbrev read_in : ℕ → List T → Read T A
    read_in n = within_in kind number_of start level starts readers n

    abbrev no_level : List T → Read T A
    no_level = none_in kind number_of start level starts readers

    -- one level over parts that are spelled, however deep
    abbrev One : A → List T → Type 0
    One = spells kind number_of false (languages false All) level 0

    up : (m n : ℕ) → m ≤ n → (a : A) (ts : List T) → In false m a ts → In false n a ts
    unfolding within
    up zero n l a ts s = absurd s
    up (suc m) zero l a ts s = absurd (omega (arith, l))
    up (suc m) (suc n) l a ts s = wider kind number_of (languages false (In false m)) (languages false (In false n)) (λ s'. (sorts s').wide false (In false m) (In false n) (up m n (omega (arith, l)))) level false 0 a ts s

    unlimited : (n : ℕ) (a : A) (ts : List T) → In true n a ts → In false n a ts
    unfolding within
    unlimited zero a ts s = s
    unlimited (suc n) a ts s = wider kind number_of (languages true (In true n)) (languages false (In false n)) (λ s'. (sorts s').wide true (In true n) (In false n) (unlimited n)) level true 0 a ts s

    to_nested : (a : A) (ts : List T) → One a ts → All a ts
    unfolding within
    to_nested a ts s =
        let p = together kind number_of (λ m. languages false (In false m)) (λ m n l s'. (sorts s').wide false (In false m) (In false n) (up m n l)) level 0 a ts (wider kind number_of (languages false All) (λ s' v us. (m : ℕ) × languages false (In false m) s' v us) by level false 0 a ts s) in
        record { levels = suc p.0; spelled = p.1 }
      where
        by : (s' : S) (v : V s') (us : List T) → languages false All s' v us → (m : ℕ) × languages false (In false m) s' v us
        by s' v us r = (sorts s').finite (In false) v us ((sorts s').wide false All (λ b vs. (m : ℕ) × In false m b vs) (λ b vs q. (q.levels, q.spelled)) v us r)

    from_nested : (a : A) (ts : List T) → All a ts → One a ts
    unfolding within
    from_nested a ts s = by s.levels s.spelled
      where
        by : (m : ℕ) → In false m a ts → One a ts
        by zero r = absurd r
        by (suc m) r = wider kind number_of (languages false (In false m)) (languages false All) (λ s'. (sorts s').wide false (In false m) All (λ b vs q. record { levels = m; spelled = q })) level false 0 a ts r

    begun_level : (L : A → List T → Type 0) → ((a : A) (ts : List T) → L a ts → Begins kind starts false ts) → (a : A) (ts : List T) → spells kind number_of false (languages false L) level 0 a ts → Begins kind starts false ts
    begun_level L b a ts s =
        subst (λ f. Begins kind f false ts) fits.begins_so (subst (λ e. Begins kind (firsts kind start level) e ts) fits.full
        (begun_form kind number_of start goes_on is_kind is_counted known (languages false L) (λ s'. (sorts s').begun L b) level fits.decided false 0 a ts s))

    begun_within : (n : ℕ) (a : A) (ts : List T) → In false n a ts → Begins kind starts false ts
    unfolding within
    begun_within zero a ts s = absurd s
    begun_within (suc n) a ts s = begun_level (In false n) (begun_within n) a ts s

    begun_nested : (a : A) (ts : List T) → All a ts → Begins kind starts false ts
    begun_nested a ts s = begun_within s.levels a ts s.spelled

    some_nested : Leads All []
    some_nested =
        let l = some_form kind number_of start goes_on is_kind is_counted known sample counted (languages false All) (λ s. (sorts s).begun All begun_nested) before (λ s h. (sorts s).some h All) level fits.decided fits.ends_before 0 in
        record { thing = l.thing; behind = l.behind; spelled = to_nested l.thing l.behind l.spelled }

    opens_nested : (t : T) → has (kind t) starts ≡ true → Opens All (t ∷ [])
    opens_nested t h =
        let o = opens_form kind number_of start goes_on is_kind is_counted known sample counted (languages false All) (λ s. (sorts s).begun All begun_nested)
        some_known before (λ s e. (sorts s).opens e All) level fits.decided fits.free_before 0 t (subst (λ f. has (kind t) f ≡ true) (sym fits.begins_so) h) in
        record { token = o.token; is = o.is; thing = o.thing; behind = o.behind; spelled = to_nested o.thing (o.token ∷ o.behind) o.spelled }
      where
        some_known : (s : S) → known s ≡ true → Leads (languages false All s) []
        some_known s h = (sorts s).leads h All some_nested

    -- reading where no level is left

    none_begun : (ts : List T) → begins kind starts ts ≡ true → no_level ts ≡ Err (TooDeep, ts)
    unfolding none_in
    none_begun ts b = cond-true (begins kind starts ts) (Err (TooDeep, ts)) (Err (Unfit, ts)) b

    none_unbegun : (ts : List T) → begins kind starts ts ≡ false → no_level ts ≡ Err (Unfit, ts)
    unfolding none_in
    none_unbegun ts b = cond-false (begins kind starts ts) (Err (TooDeep, ts)) (Err (Unfit, ts)) b

    none_told : (ts rest : List T) (x : Fault) → no_level ts ≡ Err (x, rest) → Told All (Cross 0) x ts rest
    unfolding beyond
    none_told ts rest x h = elim (cases_Bool (begins kind starts ts)) [
      | inl b ↦ by ts b (err_same (TooDeep, ts) (x, rest) (sym (none_begun ts b) ∙ h))
      | inr b ↦ (let both = err_same (Unfit, ts) (x, rest) (sym (none_unbegun ts b) ∙ h) in subst (λ y. Told All (Cross 0) y ts rest) (ap (λ p. p.0) both) (record { front = []; is = ap (λ p. p.1) both; thing = some_nested.thing; behind = some_nested.behind; spelled = some_nested.spelled }))
    ]
      where
        by : (us : List T) → begins kind starts us ≡ true → ◌≡◌ {A = Fault × List T} (TooDeep, us) (x, rest) → Told All (Cross 0) x us rest
        by [] b both = cc
        by (t ∷ us) b both = subst (λ y. Told All (Cross 0) y (t ∷ us) rest) (ap (λ p. p.0) both) (record { front = []; token = t; behind = us; is = refl; rest_is = sym (ap (λ p. p.1) both); crossed = (refl, opens_nested t b) })

    zero_law : Law kind (In true 0) All (Cross 0) no_level starts false goes
    unfolding within beyond
    zero_law = record {
      sound = λ ts a rest h. elim (cases_Bool (begins kind starts ts)) [
        | inl b ↦ (let z = sym (none_begun ts b) ∙ h in cc)
        | inr b ↦ (let z = sym (none_unbegun ts b) ∙ h in cc)
      ];
      complete = λ a front rest s stop. absurd s;
      grows = λ a ts s. absurd s;
      begun = begun_nested;
      some = some_nested;
      fails = none_told;
      tells = λ front behind x c.
          let o = c.1 in
          let b : has (kind o.token) starts ≡ true = begun_nested o.thing (o.token ∷ o.behind) o.spelled in
          let e : front ++ behind ≡ o.token ∷ behind = ap (λ z. z ++ behind) o.is in
          record { before = []; token = o.token; is = o.is; told = none_begun (front ++ behind) (ap (begins kind starts) e ∙ b) ∙ ap (λ z. Err (TooDeep, z)) e ∙ ap (λ y. Err (y, o.token ∷ behind)) (sym c.0) };
      leads = λ front x c. let o = c.1 in record { thing = o.thing; behind = o.behind; spelled = subst (λ z. All o.thing (z ++ o.behind)) (sym o.is) o.spelled };
      limits = λ front c. let z = c.0 in cc;
      blind_ok = λ front rest us a h alike. elim (cases_Bool (begins kind starts (front ++ rest))) [
        | inl b ↦ (let z = sym (none_begun (front ++ rest) b) ∙ h in cc)
        | inr b ↦ (let z = sym (none_unbegun (front ++ rest) b) ∙ h in cc)
      ];
      blind_err = λ front rest us x h alike.
          let same = begins_alike kind starts (front ++ rest) (front ++ us) (alike_behind front rest us alike) in
          elim (cases_Bool (begins kind starts (front ++ rest))) [
            | inl b ↦ (
                let both = err_same (TooDeep, front ++ rest) (x, rest) (sym (none_begun (front ++ rest) b) ∙ h) in
                none_begun (front ++ us) (sym same ∙ b) ∙ ap (λ y. Err (y, front ++ us)) (ap (λ p. p.0) both) ∙ ap (λ z. Err (x, z ++ us)) (nothing_before front rest (ap (λ p. p.1) both)))
            | inr b ↦ (
                let both = err_same (Unfit, front ++ rest) (x, rest) (sym (none_unbegun (front ++ rest) b) ∙ h) in
                none_unbegun (front ++ us) (sym same ∙ b) ∙ ap (λ y. Err (y, front ++ us)) (ap (λ p. p.0) both) ∙ ap (λ z. Err (x, z ++ us)) (nothing_before front rest (ap (λ p. p.1) both)))
          ];
    }

    zero_split : (a : A) (ts : List T) → All a ts → In true 0 a ts ⊎ Crossing (Cross 0) ts
    unfolding within beyond
    zero_split a ts s = inr (by ts s (begun_nested a ts s))
      where
        by : (us : List T) → All a us → Begins kind starts false us → Crossing (Cross 0) us
        by [] r b = cc
        by (u ∷ us) r b = (TooDeep, u ∷ [], us, refl, (refl, record { token = u; is = refl; thing = a; behind = us; spelled = r }))

    known_of : (s : S) (v : V s) (ts : List T) → languages false All s v ts → known s ≡ true
    known_of s v ts r = (sorts s).is_known All v ts r

    next_law : (n : ℕ) → ((s : S) → known s ≡ true → Part kind (languages true (In true n) s) (languages false All s) (crossings (Cross n) s) (readers (read_in n) s) (start s) (goes_on s)) → Part kind (In true (suc n)) All (Cross (suc n)) (read_in (suc n)) starts goes
    unfolding within beyond within_in
    next_law n parts = record {
      law = law_same kind (λ a ts s. s) (λ a ts s. s) to_nested from_nested (λ x ts c. c) (λ x ts c. c) (λ ts. refl) (λ k h. subst (λ f. has k f ≡ true) fits.begins_so h) (stops_subset kind (more kind start goes_on is_kind is_counted level) goes fits.goes_on_so)
          (law_flag kind fits.full (form_law (languages true (In true n)) (languages false All) (crossings (Cross n)) (readers (read_in n)) parts known_of level fits.decided 0));
      opens = opens_nested;
      split = λ a ts s. form_split (languages true (In true n)) (languages false All) (crossings (Cross n)) (readers (read_in n)) parts known_of level 0 a ts (from_nested a ts s);
    }

    -- all is known of it, within so many levels
    pub nests_law : (n : ℕ) → Part kind (In true n) All (Cross n) (read_in n) starts goes
    unfolding within_in
    nests_law zero = record { law = zero_law; opens = opens_nested; split = zero_split }
    nests_law (suc n) = next_law n (λ s h. (sorts s).part h (In true n) All (Cross n) (read_in n) (nests_law n))
