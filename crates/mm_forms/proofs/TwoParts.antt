-- The law of two languages: the one and then the other, and the one or the other.
use Rattle.std.proofs.Common.{◌≡◌, ◌⊎◌, inl, inr, ℕ, List, [], ◌∷◌, ◌++◌, Bool, true, false, cond, ◌&&◌, ◌||◌, Ok, Err, refl, sym, ◌∙◌, ap, subst, append_assoc}
use Rattle.std.proofs.lemmas.Bool.{cond-true, cond-false, cases_Bool}
use Rattle.std.proofs.lemmas.List.{append_cancel_right}
use Rattle.mm_forms.specs.declared.fault.Fault.{Fault}
use Rattle.mm_forms.specs.declared.fault.Fault.TheVariants.{Unfit, TooMany, TooDeep}
use Rattle.mm_forms.specs.Language.{Joined}
use Rattle.mm_forms.specs.Forms.{apart, ◌>>=◌, Read, begins}
use Rattle.mm_forms.proofs.Fronts.{bind_ok, bind_err, bind_at, bind_stops, ok_same, Takes, Told, Leads, alike_behind}
use Rattle.mm_forms.proofs.Laws.{Begins, Law, stops_left, stops_right, stops_before, stops_at, begins_joined, begins_on, begins_left, begins_right, begins_alike, crossing_begins, told_in}

module _ {T : Type 0} (kind : T → ℕ) where
  -- the one and then the other

  abbrev pub Both : {A B : Type 0} → (A → List T → Type 0) → (A → B → List T → Type 0) → A × B → List T → Type 0
  Both L M p ts = Joined (L p.0) (M p.0 p.1) ts

  abbrev pub Either_crosses : {A : Type 0} → (A → List T → Type 0) → (Fault → List T → Type 0) → (A → Fault → List T → Type 0) → Fault → List T → Type 0
  Either_crosses {A = A} L C D x ts = C x ts ⊎ ((a : A) × Joined (L a) (D a x) ts)

  abbrev pub both_in : {A B : Type 0} → (List T → Read T A) → (A → List T → Read T B) → List T → Read T (A × B)
  both_in read next ts = read ts >>= λ a. next a.0 a.1 >>= λ b. Ok ((a.0, b.0), b.1)

  -- where the fault is, the tokens are a front and the rest
  pub told_front : {A : Type 0} (B : A → List T → Type 0) (C : Fault → List T → Type 0) (x : Fault) (ts rest : List T) → Told B C x ts rest → (front : List T) × (ts ≡ front ++ rest)
  told_front B C Unfit ts rest t = (t.front, t.is)
  told_front B C TooMany ts rest t = (t.front, t.is ∙ ap (λ l. t.front ++ l) (sym t.rest_is))
  told_front B C TooDeep ts rest t = (t.front, t.is ∙ ap (λ l. t.front ++ l) (sym t.rest_is))

  -- a fault in the first part
  first_told : {A B : Type 0} (LB : A → List T → Type 0) (MB : A → B → List T → Type 0) (L : A → List T → Type 0) (C : Fault → List T → Type 0) (D : A → Fault → List T → Type 0)
      → ((a : A) → Leads (MB a) []) → (x : Fault) (ts rest : List T) → Told LB C x ts rest → Told (Both LB MB) (Either_crosses L C D) x ts rest
  first_told LB MB L C D some Unfit ts rest t =
      let q = some t.thing in
      record { front = t.front; is = t.is; thing = (t.thing, q.thing); behind = t.behind ++ q.behind; spelled = record { front = t.front ++ t.behind; back = q.behind; is = sym (append_assoc t.front t.behind q.behind); first = t.spelled; second = q.spelled } }
  first_told LB MB L C D some TooMany ts rest t = record { front = t.front; token = t.token; behind = t.behind; is = t.is; rest_is = t.rest_is; crossed = inl t.crossed }
  first_told LB MB L C D some TooDeep ts rest t = record { front = t.front; token = t.token; behind = t.behind; is = t.is; rest_is = t.rest_is; crossed = inl t.crossed }

  -- a fault in the second part
  second_told : {A B : Type 0} (LB : A → List T → Type 0) (MB : A → B → List T → Type 0) (L : A → List T → Type 0) (C : Fault → List T → Type 0) (D : A → Fault → List T → Type 0)
      → ((a : A) (ts : List T) → L a ts → LB a ts) → (x : Fault) (ts rest : List T) (a : A) (mid : List T) → Takes (L a) ts mid → Told (MB a) (D a) x mid rest → Told (Both LB MB) (Either_crosses L C D) x ts rest
  second_told LB MB L C D grows Unfit ts rest a mid before t =
      record { front = before.front ++ t.front; is = before.is ∙ ap (λ l. before.front ++ l) t.is ∙ sym (append_assoc before.front t.front rest); thing = (a, t.thing); behind = t.behind; spelled = record { front = before.front; back = t.front ++ t.behind; is = append_assoc before.front t.front t.behind; first = grows a before.front before.spelled; second = t.spelled } }
  second_told LB MB L C D grows TooMany ts rest a mid before t =
      record { front = before.front ++ t.front; token = t.token; behind = t.behind; is = before.is ∙ ap (λ l. before.front ++ l) t.is ∙ sym (append_assoc before.front t.front (t.token ∷ t.behind)); rest_is = t.rest_is; crossed = inr (a, record { front = before.front; back = t.front ++ t.token ∷ []; is = append_assoc before.front t.front (t.token ∷ []); first = before.spelled; second = t.crossed }) }
  second_told LB MB L C D grows TooDeep ts rest a mid before t =
      record { front = before.front ++ t.front; token = t.token; behind = t.behind; is = before.is ∙ ap (λ l. before.front ++ l) t.is ∙ sym (append_assoc before.front t.front (t.token ∷ t.behind)); rest_is = t.rest_is; crossed = inr (a, record { front = before.front; back = t.front ++ t.token ∷ []; is = append_assoc before.front t.front (t.token ∷ []); first = before.spelled; second = t.crossed }) }

  pub law_then : {A B : Type 0} {L LB : A → List T → Type 0} {M MB : A → B → List T → Type 0} {C : Fault → List T → Type 0} {D : A → Fault → List T → Type 0}
      {read : List T → Read T A} {next : A → List T → Read T B} {f g m n : List ℕ} {e d : Bool}
      → Law kind L LB C read f e m → ((a : A) → Law kind (M a) (MB a) (D a) (next a) g d n) → apart m g ≡ true
      → Law kind (Both L M) (Both LB MB) (Either_crosses L C D) (both_in read next) (f ++ cond e g []) (e && d) (n ++ cond d m [])
  law_then {A = A} {B = B} {L = L} {LB = LB} {M = M} {MB = MB} {C = C} {D = D} {read = read} {next = next} {f = f} {g = g} {m = m} {n = n} {e = e} {d = d} one two distinct = record {
    sound = λ ts c rest h.
        let b = bind_ok (read ts) tail (c, rest) h in
        let x = b.0 in
        let p = bind_ok (next x.0 x.1) (λ y. Ok ((x.0, y.0), y.1)) (c, rest) b.2 in
        let both = ok_same ((x.0, p.0.0), p.0.1) (c, rest) p.2 in
        let before = one.sound ts x.0 x.1 b.1 in
        let behind = (two x.0).sound x.1 p.0.0 p.0.1 p.1 in
        record {
          front = before.front ++ behind.front;
          is = before.is ∙ ap (λ l. before.front ++ l) (behind.is ∙ ap (λ q. behind.front ++ q.1) both) ∙ sym (append_assoc before.front behind.front rest);
          spelled = subst (λ q. Both L M q.0 (before.front ++ behind.front)) both (record { front = before.front; back = behind.front; is = refl; first = before.spelled; second = behind.spelled });
        };
    complete = λ c front rest s stop.
        let goes : read (front ++ rest) ≡ Ok (c.0, s.back ++ rest) =
        ap read (ap (λ l. l ++ rest) s.is ∙ append_assoc s.front s.back rest)
        ∙ one.complete c.0 s.front (s.back ++ rest) s.first (stops_before kind m g d s.back rest ((two c.0).begun c.1 s.back ((two c.0).grows c.1 s.back s.second)) distinct (λ w. stops_at kind m n d rest stop w)) in
        bind_at (read (front ++ rest)) tail (c.0, s.back ++ rest) (Ok (c, rest)) goes
        (bind_at (next c.0 (s.back ++ rest)) (λ y. Ok ((c.0, y.0), y.1)) (c.1, rest) (Ok (c, rest)) ((two c.0).complete c.1 s.back rest s.second (stops_left kind n (cond d m []) rest stop)) refl);
    grows = λ c ts s. record { front = s.front; back = s.back; is = s.is; first = one.grows c.0 s.front s.first; second = (two c.0).grows c.1 s.back s.second };
    begun = λ c front s. subst (Begins kind (f ++ cond e g []) (e && d)) (sym s.is) (begins_joined kind f g e d s.front s.back (one.begun c.0 s.front s.first) ((two c.0).begun c.1 s.back s.second));
    some =
        let p = one.some in
        let q = (two p.thing).some in
        record { thing = (p.thing, q.thing); behind = p.behind ++ q.behind; spelled = record { front = p.behind; back = q.behind; is = refl; first = p.spelled; second = q.spelled } };
    fails = λ ts rest x h. elim (bind_err (read ts) tail (x, rest) h) [
      | inl stops ↦ first_told LB MB L C D (λ a. (two a).some) x ts rest (one.fails ts rest x stops)
      | inr goes ↦ (elim (bind_err (next goes.0.0 goes.0.1) (λ y. Ok ((goes.0.0, y.0), y.1)) (x, rest) goes.2) [
        | inl stops ↦ second_told LB MB L C D one.grows x ts rest goes.0.0 goes.0.1 (one.sound ts goes.0.0 goes.0.1 goes.1) ((two goes.0.0).fails goes.0.1 rest x stops)
        | inr ends ↦ (let z = ends.2 in cc)
      ])
    ];
    tells = λ front behind x c. elim c [
      | inl c ↦ (let t = one.tells front behind x c in record { before = t.before; token = t.token; is = t.is; told = bind_stops (read (front ++ behind)) tail (x, t.token ∷ behind) t.told })
      | inr p ↦ (
          let a = p.0 in
          let s = p.1 in
          let t = (two a).tells s.back behind x s.second in
          let goes : read (front ++ behind) ≡ Ok (a, s.back ++ behind) =
          ap read (ap (λ l. l ++ behind) s.is ∙ append_assoc s.front s.back behind)
          ∙ one.complete a s.front (s.back ++ behind) s.first (stops_before kind m g false s.back behind (crossing_begins kind (two a) s.back x s.second) distinct (λ w. cc)) in
          record {
            before = s.front ++ t.before;
            token = t.token;
            is = s.is ∙ ap (λ l. s.front ++ l) t.is ∙ sym (append_assoc s.front t.before (t.token ∷ []));
            told = bind_at (read (front ++ behind)) tail (a, s.back ++ behind) (Err (x, t.token ∷ behind)) goes (bind_stops (next a (s.back ++ behind)) (λ y. Ok ((a, y.0), y.1)) (x, t.token ∷ behind) t.told);
          })
    ];
    leads = λ front x c. elim c [
      | inl c ↦ (
          let l = one.leads front x c in
          let q = (two l.thing).some in
          record { thing = (l.thing, q.thing); behind = l.behind ++ q.behind; spelled = record { front = front ++ l.behind; back = q.behind; is = sym (append_assoc front l.behind q.behind); first = l.spelled; second = q.spelled } })
      | inr p ↦ (
          let s = p.1 in
          let l = (two p.0).leads s.back x s.second in
          record { thing = (p.0, l.thing); behind = l.behind; spelled = record { front = s.front; back = s.back ++ l.behind; is = ap (λ z. z ++ l.behind) s.is ∙ append_assoc s.front s.back l.behind; first = one.grows p.0 s.front s.first; second = l.spelled } })
    ];
    limits = λ front c. elim c [ inl c ↦ one.limits front c | inr p ↦ (two p.0).limits p.1.back p.1.second ];
    blind_ok = λ front rest us c h alike.
        let b = bind_ok (read (front ++ rest)) tail (c, rest) h in
        let x = b.0 in
        let p = bind_ok (next x.0 x.1) (λ y. Ok ((x.0, y.0), y.1)) (c, rest) b.2 in
        let both = ok_same ((x.0, p.0.0), p.0.1) (c, rest) p.2 in
        let before = one.sound (front ++ rest) x.0 x.1 b.1 in
        let behind = (two x.0).sound x.1 p.0.0 p.0.1 p.1 in
        let mid : x.1 ≡ behind.front ++ rest = behind.is ∙ ap (λ q. behind.front ++ q.1) both in
        let parts : front ≡ before.front ++ behind.front = append_cancel_right front (before.front ++ behind.front) rest (before.is ∙ ap (λ l. before.front ++ l) mid ∙ sym (append_assoc before.front behind.front rest)) in
        let goes : read (before.front ++ (behind.front ++ us)) ≡ Ok (x.0, behind.front ++ us) =
        one.blind_ok before.front (behind.front ++ rest) (behind.front ++ us) x.0 (ap read (sym (before.is ∙ ap (λ l. before.front ++ l) mid)) ∙ b.1 ∙ ap (λ l. Ok (x.0, l)) mid) (alike_behind behind.front rest us alike) in
        let then' : next x.0 (behind.front ++ us) ≡ Ok (p.0.0, us) =
        (two x.0).blind_ok behind.front rest us p.0.0 (ap (next x.0) (sym mid) ∙ p.1 ∙ ap (λ q. Ok (p.0.0, q.1)) both) alike in
        ap (both_in read next) (ap (λ l. l ++ us) parts ∙ append_assoc before.front behind.front us)
        ∙ bind_at (read (before.front ++ (behind.front ++ us))) tail (x.0, behind.front ++ us) (Ok (c, us)) goes
        (bind_at (next x.0 (behind.front ++ us)) (λ y. Ok ((x.0, y.0), y.1)) (p.0.0, us) (Ok (c, us)) then' (ap (λ q. Ok (q.0, us)) both));
    blind_err = λ front rest us x h alike. elim (bind_err (read (front ++ rest)) tail (x, rest) h) [
      | inl stops ↦ bind_stops (read (front ++ us)) tail (x, us) (one.blind_err front rest us x stops alike)
      | inr goes ↦ (elim (bind_err (next goes.0.0 goes.0.1) (λ y. Ok ((goes.0.0, y.0), y.1)) (x, rest) goes.2) [
        | inl stops ↦ (
            let a = goes.0.0 in
            let before = one.sound (front ++ rest) a goes.0.1 goes.1 in
            let behind = told_front (MB a) (D a) x goes.0.1 rest ((two a).fails goes.0.1 rest x stops) in
            let mid : goes.0.1 ≡ behind.0 ++ rest = behind.1 in
            let parts : front ≡ before.front ++ behind.0 = append_cancel_right front (before.front ++ behind.0) rest (before.is ∙ ap (λ l. before.front ++ l) mid ∙ sym (append_assoc before.front behind.0 rest)) in
            let then' : read (before.front ++ (behind.0 ++ us)) ≡ Ok (a, behind.0 ++ us) =
            one.blind_ok before.front (behind.0 ++ rest) (behind.0 ++ us) a (ap read (sym (before.is ∙ ap (λ l. before.front ++ l) mid)) ∙ goes.1 ∙ ap (λ l. Ok (a, l)) mid) (alike_behind behind.0 rest us alike) in
            ap (both_in read next) (ap (λ l. l ++ us) parts ∙ append_assoc before.front behind.0 us)
            ∙ bind_at (read (before.front ++ (behind.0 ++ us))) tail (a, behind.0 ++ us) (Err (x, us)) then'
            (bind_stops (next a (behind.0 ++ us)) (λ y. Ok ((a, y.0), y.1)) (x, us) ((two a).blind_err behind.0 rest us x (ap (next a) (sym mid) ∙ stops) alike)))
        | inr ends ↦ (let z = ends.2 in cc)
      ])
    ];
  }
    where
      tail : A × List T → Read T (A × B)
      tail a = next a.0 a.1 >>= λ b. Ok ((a.0, b.0), b.1)

  -- the one or the other, as the first token says

  pub law_or : {A : Type 0} {L LB M MB : A → List T → Type 0} {C D : Fault → List T → Type 0} {read other : List T → Read T A} {f g m n : List ℕ} {e d : Bool}
      → Law kind L LB C read f e m → Law kind M MB D other g d n → e ≡ false → apart f g ≡ true
      → Law kind (λ a ts. L a ts ⊎ M a ts) (λ a ts. LB a ts ⊎ MB a ts) (λ x ts. C x ts ⊎ D x ts) (λ ts. cond (begins kind f ts) (read ts) (other ts)) (f ++ g) (e || d) ((m ++ n) ++ cond d f [])
  law_or {A = A} {L = L} {LB = LB} {M = M} {MB = MB} {C = C} {D = D} {read = read} {other = other} {f = f} {g = g} {m = m} {n = n} {e = e} {d = d} one two full distinct = record {
    sound = λ ts a rest h. elim (cases_Bool (begins kind f ts)) [
      | inl is ↦ (let t = one.sound ts a rest (sym (cond-true (begins kind f ts) (read ts) (other ts) is) ∙ h) in record { front = t.front; is = t.is; spelled = inl t.spelled })
      | inr isnt ↦ (let t = two.sound ts a rest (sym (cond-false (begins kind f ts) (read ts) (other ts) isnt) ∙ h) in record { front = t.front; is = t.is; spelled = inr t.spelled })
    ];
    complete = λ a front rest s stop. elim s [
      | inl s ↦ left (front ++ rest) (begins_on kind f front rest (nonempty front (one.begun a front (one.grows a front s)))) ∙ one.complete a front rest s (stops_left kind m n rest (stops_left kind (m ++ n) (cond d f []) rest stop))
      | inr s ↦ right (front ++ rest) (stops_before kind f g d front rest (two.begun a front (two.grows a front s)) distinct (λ w. stops_at kind f (m ++ n) d rest stop w)) ∙ two.complete a front rest s (stops_right kind m n rest (stops_left kind (m ++ n) (cond d f []) rest stop))
    ];
    grows = λ a ts s. elim s [ inl s ↦ inl (one.grows a ts s) | inr s ↦ inr (two.grows a ts s) ];
    begun = λ a front s. elim s [
      | inl s ↦ begins_left kind f g (e || d) front (nonempty front (one.begun a front s))
      | inr s ↦ begins_right kind f g (e || d) front (subst (λ b. Begins kind g (b || d) front) (sym full) (two.begun a front s))
    ];
    some = let l = one.some in record { thing = l.thing; behind = l.behind; spelled = inl l.spelled };
    fails = λ ts rest x h. elim (cases_Bool (begins kind f ts)) [
      | inl is ↦ told_in kind LB Or_B C Or_C (λ front l. record { thing = l.thing; behind = l.behind; spelled = inl l.spelled }) (λ y front c. inl c) x ts rest (one.fails ts rest x (sym (cond-true (begins kind f ts) (read ts) (other ts) is) ∙ h))
      | inr isnt ↦ told_in kind MB Or_B D Or_C (λ front l. record { thing = l.thing; behind = l.behind; spelled = inr l.spelled }) (λ y front c. inr c) x ts rest (two.fails ts rest x (sym (cond-false (begins kind f ts) (read ts) (other ts) isnt) ∙ h))
    ];
    tells = λ front behind x c. elim c [
      | inl c ↦ (let t = one.tells front behind x c in record { before = t.before; token = t.token; is = t.is; told = left (front ++ behind) (begins_on kind f front behind (crossing_begins kind one front x c)) ∙ t.told })
      | inr c ↦ (let t = two.tells front behind x c in record { before = t.before; token = t.token; is = t.is; told = right (front ++ behind) (stops_before kind f g false front behind (crossing_begins kind two front x c) distinct (λ w. cc)) ∙ t.told })
    ];
    leads = λ front x c. elim c [
      | inl c ↦ (let l = one.leads front x c in record { thing = l.thing; behind = l.behind; spelled = inl l.spelled })
      | inr c ↦ (let l = two.leads front x c in record { thing = l.thing; behind = l.behind; spelled = inr l.spelled })
    ];
    limits = λ front c. elim c [ inl c ↦ one.limits front c | inr c ↦ two.limits front c ];
    blind_ok = λ front rest us a h alike.
        let same = begins_alike kind f (front ++ rest) (front ++ us) (alike_behind front rest us alike) in
        elim (cases_Bool (begins kind f (front ++ rest))) [
          | inl is ↦ left (front ++ us) (sym same ∙ is) ∙ one.blind_ok front rest us a (sym (left (front ++ rest) is) ∙ h) alike
          | inr isnt ↦ right (front ++ us) (sym same ∙ isnt) ∙ two.blind_ok front rest us a (sym (right (front ++ rest) isnt) ∙ h) alike
        ];
    blind_err = λ front rest us x h alike.
        let same = begins_alike kind f (front ++ rest) (front ++ us) (alike_behind front rest us alike) in
        elim (cases_Bool (begins kind f (front ++ rest))) [
          | inl is ↦ left (front ++ us) (sym same ∙ is) ∙ one.blind_err front rest us x (sym (left (front ++ rest) is) ∙ h) alike
          | inr isnt ↦ right (front ++ us) (sym same ∙ isnt) ∙ two.blind_err front rest us x (sym (right (front ++ rest) isnt) ∙ h) alike
        ];
  }
    where
      Or_B : A → List T → Type 0
      Or_B a ts = LB a ts ⊎ MB a ts

      Or_C : Fault → List T → Type 0
      Or_C x ts = C x ts ⊎ D x ts

      left : (ts : List T) → begins kind f ts ≡ true → cond (begins kind f ts) (read ts) (other ts) ≡ read ts
      left ts is = cond-true (begins kind f ts) (read ts) (other ts) is

      right : (ts : List T) → begins kind f ts ≡ false → cond (begins kind f ts) (read ts) (other ts) ≡ other ts
      right ts isnt = cond-false (begins kind f ts) (read ts) (other ts) isnt

      nonempty : (front : List T) → Begins kind f e front → Begins kind f false front
      nonempty front b = subst (λ z. Begins kind f z front) full b
