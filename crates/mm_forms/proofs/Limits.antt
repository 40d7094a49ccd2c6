-- The law of a part that there may be only below a limit.
use Rattle.std.proofs.Common.{◌≡◌, ◌⊎◌, inl, inr, ℕ, List, [], ◌∷◌, ◌++◌, Bool, true, false, cond, ◌||◌, not, Ok, Err, refl, sym, ◌∙◌, ap, subst, append_assoc, ◌<◌, ◌≤◌, ltb}
use Rattle.std.proofs.lemmas.Bool.{cond-true, cond-false, or_left, cases_Bool, both_ways, lt-ltb, le-ltb, ltb-true, ltb-false}
use Rattle.mm_forms.specs.declared.fault.Fault.{Fault}
use Rattle.mm_forms.specs.declared.fault.Fault.TheVariants.{Unfit, TooMany, TooDeep}
use Rattle.mm_forms.specs.Language.{Opens}
use Rattle.mm_forms.specs.Forms.{has, Read, begins}
use Rattle.mm_forms.proofs.Fronts.{err_same, nothing_before, Told, alike_behind}
use Rattle.mm_forms.proofs.Laws.{Law, begins_on, begins_alike, crossing_begins, told_in}

module _ {T : Type 0} (kind : T → ℕ) where
  -- a part that there may be only where the number that is wanted is below a limit

  module _ {A : Type 0} {L LB : A → List T → Type 0} {C : Fault → List T → Type 0} {read : List T → Read T A} {f m : List ℕ}
      (law : Law kind L LB C read f false m) (opens : (t : T) → has (kind t) f ≡ true → Opens LB (t ∷ [])) (most k : ℕ) where
    abbrev pub Kept : Bool → (A → List T → Type 0) → A → List T → Type 0
    Kept limited M a ts = (limited ≡ true → k < most) × M a ts

    abbrev pub Kept_cross : Fault → List T → Type 0
    Kept_cross x ts = ((k < most) × C x ts) ⊎ ((most ≤ k) × (x ≡ TooMany) × Opens LB ts)

    abbrev pub below_in : List T → Read T A
    below_in ts = cond (ltb k most || not (begins kind f ts)) (read ts) (Err (TooMany, ts))

    few : (ts : List T) → k < most → below_in ts ≡ read ts
    few ts l = cond-true (ltb k most || not (begins kind f ts)) (read ts) (Err (TooMany, ts)) (or_left (ltb k most) (not (begins kind f ts)) (lt-ltb k most l))

    unbegun : (ts : List T) → begins kind f ts ≡ false → below_in ts ≡ read ts
    unbegun ts b = cond-true (ltb k most || not (begins kind f ts)) (read ts) (Err (TooMany, ts)) (by (ltb k most) (begins kind f ts) b)
      where
        by : (p q : Bool) → q ≡ false → (p || not q) ≡ true
        by true q e = refl
        by false true e = cc
        by false false e = refl

    over : (ts : List T) → most ≤ k → begins kind f ts ≡ true → below_in ts ≡ Err (TooMany, ts)
    over ts l b = cond-false (ltb k most || not (begins kind f ts)) (read ts) (Err (TooMany, ts)) (by (ltb k most) (begins kind f ts) (le-ltb k most l) b)
      where
        by : (p q : Bool) → p ≡ false → q ≡ true → (p || not q) ≡ false
        by true q e g = cc
        by false true e g = refl
        by false false e g = cc

    -- below the limit, or past it where a part begins, or past it where none begins
    cases : (ts : List T) → (k < most) ⊎ (((most ≤ k) × (begins kind f ts ≡ true)) ⊎ ((most ≤ k) × (begins kind f ts ≡ false)))
    cases ts = elim (cases_Bool (ltb k most)) [
      | inl is ↦ inl (ltb-true k most is)
      | inr isnt ↦ (elim (cases_Bool (begins kind f ts)) [ inl b ↦ inr (inl (ltb-false k most isnt, b)) | inr b ↦ inr (inr (ltb-false k most isnt, b)) ])
    ]

    -- no part is read where none begins
    unread : (ts rest : List T) (a : A) → begins kind f ts ≡ false → read ts ≡ Ok (a, rest) → ⊥
    unread ts rest a b h =
        let t = law.sound ts a rest h in
        both_ways (begins kind f ts) b (ap (begins kind f) t.is ∙ begins_on kind f t.front rest (law.begun a t.front (law.grows a t.front t.spelled)))

    unpast : (ts rest : List T) (x : Fault) → begins kind f ts ≡ false → Told LB C x ts rest → Told (Kept false LB) Kept_cross x ts rest
    unpast ts rest Unfit b t = record { front = t.front; is = t.is; thing = t.thing; behind = t.behind; spelled = (λ e. cc, t.spelled) }
    unpast ts rest TooMany b t = absurd (both_ways (begins kind f ts) b (ap (begins kind f) (t.is ∙ sym (append_assoc t.front (t.token ∷ []) t.behind)) ∙ begins_on kind f (t.front ++ t.token ∷ []) t.behind (crossing_begins kind law (t.front ++ t.token ∷ []) TooMany t.crossed)))
    unpast ts rest TooDeep b t = absurd (both_ways (begins kind f ts) b (ap (begins kind f) (t.is ∙ sym (append_assoc t.front (t.token ∷ []) t.behind)) ∙ begins_on kind f (t.front ++ t.token ∷ []) t.behind (crossing_begins kind law (t.front ++ t.token ∷ []) TooDeep t.crossed)))

    too_many : (ts rest : List T) (x : Fault) → most ≤ k → begins kind f ts ≡ true → (TooMany ≡ x) × (ts ≡ rest) → Told (Kept false LB) Kept_cross x ts rest
    too_many [] rest x l b e = cc
    too_many (t ∷ ts) rest x l b e = subst (λ y. Told (Kept false LB) Kept_cross y (t ∷ ts) rest) e.0 (record { front = []; token = t; behind = ts; is = refl; rest_is = sym e.1; crossed = inr (l, refl, opens t b) })

    pub law_below : Law kind (Kept true L) (Kept false LB) Kept_cross below_in f false m
    law_below = record {
      sound = λ ts a rest h. elim (cases ts) [
        | inl l ↦ (let t = law.sound ts a rest (sym (few ts l) ∙ h) in record { front = t.front; is = t.is; spelled = (λ e. l, t.spelled) })
        | inr (inl p) ↦ (let z = sym (over ts p.0 p.1) ∙ h in cc)
        | inr (inr p) ↦ absurd (unread ts rest a p.1 (sym (unbegun ts p.1) ∙ h))
      ];
      complete = λ a front rest s stop. few (front ++ rest) (s.0 refl) ∙ law.complete a front rest s.1 stop;
      grows = λ a ts s. (λ e. cc, law.grows a ts s.1);
      begun = λ a front s. law.begun a front s.1;
      some = let l = law.some in record { thing = l.thing; behind = l.behind; spelled = (λ e. cc, l.spelled) };
      fails = λ ts rest x h. elim (cases ts) [
        | inl l ↦ told_in kind LB (Kept false LB) C Kept_cross (λ front l. record { thing = l.thing; behind = l.behind; spelled = (λ e. cc, l.spelled) }) (λ y front c. inl (l, c)) x ts rest (law.fails ts rest x (sym (few ts l) ∙ h))
        | inr (inl p) ↦ (let both = err_same (TooMany, ts) (x, rest) (sym (over ts p.0 p.1) ∙ h) in too_many ts rest x p.0 p.1 (ap (λ q. q.0) both, ap (λ q. q.1) both))
        | inr (inr p) ↦ unpast ts rest x p.1 (law.fails ts rest x (sym (unbegun ts p.1) ∙ h))
      ];
      tells = λ front behind x c. elim c [
        | inl c ↦ (let t = law.tells front behind x c.1 in record { before = t.before; token = t.token; is = t.is; told = few (front ++ behind) c.0 ∙ t.told })
        | inr c ↦ (
            let o = c.2 in
            let b : has (kind o.token) f ≡ true = law.begun o.thing (o.token ∷ o.behind) o.spelled in
            let e : front ++ behind ≡ o.token ∷ behind = ap (λ z. z ++ behind) o.is in
            record { before = []; token = o.token; is = o.is; told = over (front ++ behind) c.0 (ap (begins kind f) e ∙ b) ∙ ap (λ z. Err (TooMany, z)) e ∙ ap (λ y. Err (y, o.token ∷ behind)) (sym c.1) })
      ];
      leads = λ front x c. elim c [
        | inl c ↦ (let l = law.leads front x c.1 in record { thing = l.thing; behind = l.behind; spelled = (λ e. cc, l.spelled) })
        | inr c ↦ (let o = c.2 in record { thing = o.thing; behind = o.behind; spelled = (λ e. cc, subst (λ z. LB o.thing (z ++ o.behind)) (sym o.is) o.spelled) })
      ];
      limits = λ front c. elim c [ inl c ↦ law.limits front c.1 | inr c ↦ (let z = c.1 in cc) ];
      blind_ok = λ front rest us a h alike. elim (cases (front ++ rest)) [
        | inl l ↦ few (front ++ us) l ∙ law.blind_ok front rest us a (sym (few (front ++ rest) l) ∙ h) alike
        | inr (inl p) ↦ (let z = sym (over (front ++ rest) p.0 p.1) ∙ h in cc)
        | inr (inr p) ↦ absurd (unread (front ++ rest) rest a p.1 (sym (unbegun (front ++ rest) p.1) ∙ h))
      ];
      blind_err = λ front rest us x h alike.
          let same = begins_alike kind f (front ++ rest) (front ++ us) (alike_behind front rest us alike) in
          elim (cases (front ++ rest)) [
            | inl l ↦ few (front ++ us) l ∙ law.blind_err front rest us x (sym (few (front ++ rest) l) ∙ h) alike
            | inr (inl p) ↦ (
                let both = err_same (TooMany, front ++ rest) (x, rest) (sym (over (front ++ rest) p.0 p.1) ∙ h) in
                let none = nothing_before front rest (ap (λ q. q.1) both) in
                over (front ++ us) p.0 (sym same ∙ p.1) ∙ ap (λ y. Err (y, front ++ us)) (ap (λ q. q.0) both) ∙ ap (λ z. Err (x, z ++ us)) none)
            | inr (inr p) ↦ unbegun (front ++ us) (sym same ∙ p.1) ∙ law.blind_err front rest us x (sym (unbegun (front ++ rest) p.1) ∙ h) alike
          ];
    }
