-- The law of one token, and of a part with the place of its first token.
use Rattle.std.proofs.Common.{◌≡◌, ◌⊎◌, inl, inr, ℕ, List, [], ◌∷◌, ◌++◌, Bool, true, false, cond, ◌&&◌, eqb, Result, Ok, Err, refl, sym, ◌∙◌, ap, subst}
use Rattle.std.proofs.lemmas.Bool.{cond-true, cond-false, eqb-true, eq-eqb, or_left, and_parts, cases_Bool}
use Rattle.std.proofs.lemmas.List.{append_cancel_right}
use Rattle.mm_forms.specs.declared.fault.Fault.{Fault}
use Rattle.mm_forms.specs.declared.fault.Fault.TheVariants.{Unfit}
use Rattle.mm_forms.specs.Forms.{◌>>=◌, Read, Token_of, stands_at, past_counted, token_in, place_in}
use Rattle.mm_forms.proofs.Numbers.{both_true}
use Rattle.mm_forms.proofs.Fronts.{bind_ok, bind_err, bind_at, bind_stops, ok_same, err_same, nothing_before, Takes, Told, Leads, Alike, alike_behind}
use Rattle.mm_forms.proofs.Laws.{Begins, Law, crossing_begins, told_in, law_same}

module _ {T : Type 0} (kind : T → ℕ) where
  -- one token that fits

  -- one token that fits, and its value
  pub record Fits_as {A : Type 0} (fits : T → Bool) (value : T → A) (a : A) (ts : List T) : Type 0 where
    pub token : T
    pub is : ts ≡ token ∷ []
    pub fits_is : fits token ≡ true
    pub value_is : a ≡ value token

  abbrev pub fit_in : {A : Type 0} → (T → Bool) → (T → A) → List T → Read T A
  fit_in fits value [] = Err (Unfit, [])
  fit_in fits value (t ∷ ts) = cond (fits t) (Ok (value t, ts)) (Err (Unfit, t ∷ ts))

  fit_at : {A : Type 0} (fits : T → Bool) (value : T → A) (t : T) (ts : List T) → fits t ≡ true → fit_in fits value (t ∷ ts) ≡ Ok (value t, ts)
  fit_at fits value t ts is = cond-true (fits t) (Ok (value t, ts)) (Err (Unfit, t ∷ ts)) is

  -- what reading one token answers, by cases
  fit_read : {A : Type 0} (fits : T → Bool) (value : T → A) (t : T) (ts : List T) → ((fits t ≡ true) × (fit_in fits value (t ∷ ts) ≡ Ok (value t, ts))) ⊎ ((fits t ≡ false) × (fit_in fits value (t ∷ ts) ≡ Err (Unfit, t ∷ ts)))
  fit_read fits value t ts = elim (cases_Bool (fits t)) [
    | inl is ↦ inl (is, cond-true (fits t) (Ok (value t, ts)) (Err (Unfit, t ∷ ts)) is)
    | inr isnt ↦ inr (isnt, cond-false (fits t) (Ok (value t, ts)) (Err (Unfit, t ∷ ts)) isnt)
  ]

  fit_sound : {A : Type 0} (fits : T → Bool) (value : T → A) (ts : List T) (a : A) (rest : List T) → fit_in fits value ts ≡ Ok (a, rest) → Takes (Fits_as fits value a) ts rest
  fit_sound fits value [] a rest h = cc
  fit_sound fits value (t ∷ ts) a rest h = elim (fit_read fits value t ts) [
    | inl c ↦ (let both = ok_same (value t, ts) (a, rest) (sym c.1 ∙ h) in record { front = t ∷ []; is = ap (λ p. t ∷ p.1) both; spelled = record { token = t; is = refl; fits_is = c.0; value_is = sym (ap (λ p. p.0) both) } })
    | inr c ↦ (let e = sym c.1 ∙ h in cc)
  ]

  fit_fails : {A : Type 0} (fits : T → Bool) (value : T → A) (ts rest : List T) (x : Fault) → fit_in fits value ts ≡ Err (x, rest) → (Unfit ≡ x) × (ts ≡ rest)
  fit_fails fits value [] rest x h = let both = err_same (Unfit, []) (x, rest) h in (ap (λ p. p.0) both, ap (λ p. p.1) both)
  fit_fails fits value (t ∷ ts) rest x h = elim (fit_read fits value t ts) [
    | inl c ↦ (let e = sym c.1 ∙ h in cc)
    | inr c ↦ (let both = err_same (Unfit, t ∷ ts) (x, rest) (sym c.1 ∙ h) in (ap (λ p. p.0) both, ap (λ p. p.1) both))
  ]

  -- a token that is not there is missed whatever stands behind it
  fit_missed : {A : Type 0} (fits : T → Bool) (value : T → A) (rest us : List T) (x : Fault) → fit_in fits value rest ≡ Err (x, rest) → Alike rest us → fit_in fits value us ≡ Err (x, us)
  fit_missed fits value [] [] x h a = h
  fit_missed fits value [] (u ∷ us) x h a = absurd a
  fit_missed fits value (t ∷ ts) [] x h a = absurd a
  fit_missed fits value (t ∷ ts) (u ∷ us) x h a =
      let f = fit_fails fits value (t ∷ ts) (t ∷ ts) x h in
      elim (fit_read fits value t ts) [
        | inl c ↦ (let e = sym c.1 ∙ h in cc)
        | inr c ↦ cond-false (fits u) (Ok (value u, us)) (Err (Unfit, u ∷ us)) (subst (λ v. fits v ≡ false) a c.0) ∙ ap (λ y. Err (y, u ∷ us)) f.0
      ]

  law_fits : {A : Type 0} (n : ℕ) (fits : T → Bool) (value : T → A) → ((t : T) → fits t ≡ true → kind t ≡ n) → (sample : T) → fits sample ≡ true
      → Law kind (Fits_as fits value) (Fits_as fits value) (λ x ts. ⊥) (fit_in fits value) (n ∷ []) false []
  law_fits n fits value of_kind sample is = record {
    sound = fit_sound fits value;
    complete = λ a front rest s stop. ap (λ l. fit_in fits value (l ++ rest)) s.is ∙ fit_at fits value s.token rest s.fits_is ∙ ap (λ b. Ok (b, rest)) (sym s.value_is);
    grows = λ a ts s. s;
    begun = λ a front s. subst (Begins kind (n ∷ []) false) (sym s.is) (or_left (eqb (kind s.token) n) false (eq-eqb (kind s.token) n (of_kind s.token s.fits_is)));
    some = record { thing = value sample; behind = sample ∷ []; spelled = record { token = sample; is = refl; fits_is = is; value_is = refl } };
    fails = λ ts rest x h. let f = fit_fails fits value ts rest x h in
        subst (λ y. Told (Fits_as fits value) (λ z us. ⊥) y ts rest) f.0 (record { front = []; is = f.1; thing = value sample; behind = sample ∷ []; spelled = record { token = sample; is = refl; fits_is = is; value_is = refl } });
    tells = λ front behind x c. absurd c;
    leads = λ front x c. absurd c;
    limits = λ front c. c;
    blind_ok = λ front rest us a h alike.
        let t = fit_sound fits value (front ++ rest) a rest h in
        let s = t.spelled in
        let same = append_cancel_right front t.front rest t.is ∙ s.is in
        ap (λ l. fit_in fits value (l ++ us)) same ∙ fit_at fits value s.token us s.fits_is ∙ ap (λ b. Ok (b, us)) (sym s.value_is);
    blind_err = λ front rest us x h alike.
        let none = nothing_before front rest (fit_fails fits value (front ++ rest) rest x h).1 in
        ap (λ l. fit_in fits value (l ++ us)) none ∙ fit_missed fits value rest us x (ap (λ l. fit_in fits value (l ++ rest)) (sym none) ∙ h) alike;
  }

  -- one token of a kind

  fit_token : {A : Type 0} (n : ℕ) (value : T → A) (ts : List T) → fit_in (λ t. eqb (kind t) n) value ts ≡ token_in kind n value ts
  fit_token n value [] = refl
  fit_token n value (t ∷ ts) = refl

  pub law_token : {A : Type 0} (n : ℕ) (value : T → A) (sample : T) → kind sample ≡ n → Law kind (Token_of kind n value) (Token_of kind n value) (λ x ts. ⊥) (token_in kind n value) (n ∷ []) false []
  law_token {A = A} n value sample is = law_same kind to from to from (λ x ts c. c) (λ x ts c. c) (fit_token n value) (λ k h. h) (λ ts s. s) (law_fits n (λ t. eqb (kind t) n) value (λ t. eqb-true (kind t) n) sample (eq-eqb (kind sample) n is))
    where
      to : (a : A) (ts : List T) → Fits_as (λ t. eqb (kind t) n) value a ts → Token_of kind n value a ts
      to a ts s = record { token = s.token; is = s.is; kind_is = eqb-true (kind s.token) n s.fits_is; value_is = s.value_is }

      from : (a : A) (ts : List T) → Token_of kind n value a ts → Fits_as (λ t. eqb (kind t) n) value a ts
      from a ts s = record { token = s.token; is = s.is; fits_is = eq-eqb (kind s.token) n s.kind_is; value_is = s.value_is }

  -- one token of a kind, with this number

  abbrev pub Numbered : ℕ → (T → ℕ) → ℕ → Unit {0} → List T → Type 0
  Numbered n number k u ts = Token_of kind n number k ts

  abbrev pub counted_in : ℕ → (T → ℕ) → ℕ → List T → Read T (Unit {0})
  counted_in n number k ts = past_counted kind n number k ts >>= λ rest. Ok (tt, rest)

  numbered_read : (b : Bool) (t : T) (ts : List T) → cond {A = Read T (Unit {0})} b (Ok (tt, ts)) (Err (Unfit, t ∷ ts)) ≡ (cond {A = Result (List T) (Fault × List T)} b (Ok ts) (Err (Unfit, t ∷ ts)) >>= λ rest. Ok (tt, rest))
  numbered_read true t ts = refl
  numbered_read false t ts = refl

  fit_counted : (n : ℕ) (number : T → ℕ) (k : ℕ) (ts : List T) → fit_in (λ t. eqb (kind t) n && eqb (number t) k) (λ t. tt) ts ≡ counted_in n number k ts
  fit_counted n number k [] = refl
  fit_counted n number k (t ∷ ts) = numbered_read (eqb (kind t) n && eqb (number t) k) t ts

  pub law_counted : (n : ℕ) (number : T → ℕ) (k : ℕ) (sample : T) → kind sample ≡ n → number sample ≡ k → Law kind (Numbered n number k) (Numbered n number k) (λ x ts. ⊥) (counted_in n number k) (n ∷ []) false []
  law_counted n number k sample is counts = law_same kind to from to from (λ x ts c. c) (λ x ts c. c) (fit_counted n number k) (λ j h. h) (λ ts s. s)
      (law_fits n fits (λ t. tt) (λ t h. eqb-true (kind t) n (and_parts (eqb (kind t) n) (eqb (number t) k) h).0) sample (both_true (eqb (kind sample) n) (eqb (number sample) k) (eq-eqb (kind sample) n is) (eq-eqb (number sample) k counts)))
    where
      fits : T → Bool
      fits t = eqb (kind t) n && eqb (number t) k

      to : (u : Unit {0}) (ts : List T) → Fits_as fits (λ t. tt) u ts → Numbered n number k u ts
      to u ts s = let p = and_parts (eqb (kind s.token) n) (eqb (number s.token) k) s.fits_is in record { token = s.token; is = s.is; kind_is = eqb-true (kind s.token) n p.0; value_is = sym (eqb-true (number s.token) k p.1) }

      from : (u : Unit {0}) (ts : List T) → Numbered n number k u ts → Fits_as fits (λ t. tt) u ts
      from u ts s = record { token = s.token; is = s.is; fits_is = both_true (eqb (kind s.token) n) (eqb (number s.token) k) (eq-eqb (kind s.token) n s.kind_is) (eq-eqb (number s.token) k (sym s.value_is)); value_is = refl }

  -- where the first token of a part stands, and the part

  abbrev pub At_place : {A P : Type 0} → (T → P) → (A → List T → Type 0) → P × A → List T → Type 0
  At_place place L p ts = L p.1 ts × stands_at kind place p.0 ts

  abbrev pub at_in : {A P : Type 0} → (T → P) → (List T → Read T A) → List T → Read T (P × A)
  at_in place read ts = place_in kind place ts >>= λ p. read ts >>= λ a. Ok ((p, a.0), a.1)

  first_place : {P : Type 0} (place : T → P) (f : List ℕ) (ts : List T) → Begins kind f false ts → (p : P) × stands_at kind place p ts
  first_place place f [] b = cc
  first_place place f (t ∷ ts) b = (place t, refl)

  place_there : {P : Type 0} (place : T → P) (p : P) (front rest : List T) → stands_at kind place p front → place_in kind place (front ++ rest) ≡ Ok p
  place_there place p [] rest s = absurd s
  place_there place p (t ∷ front) rest s = ap Ok (sym s)

  some_place : {P : Type 0} (place : T → P) (f : List ℕ) (front rest : List T) → Begins kind f false front → (p : P) × (place_in kind place (front ++ rest) ≡ Ok p)
  some_place place f [] rest b = cc
  some_place place f (t ∷ front) rest b = (place t, refl)

  place_stands : {P : Type 0} (place : T → P) (p : P) (f : List ℕ) (front rest : List T) → Begins kind f false front → place_in kind place (front ++ rest) ≡ Ok p → stands_at kind place p front
  place_stands place p f [] rest b h = cc
  place_stands place p f (t ∷ front) rest b h = sym (ok_same (place t) p h)

  no_place : {P : Type 0} (place : T → P) (ts rest : List T) (x : Fault) → place_in kind place ts ≡ Err (x, rest) → (Unfit ≡ x) × (ts ≡ []) × (rest ≡ [])
  no_place place [] rest x h = let both = err_same (Unfit, []) (x, rest) h in (ap (λ p. p.0) both, refl, sym (ap (λ p. p.1) both))
  no_place place (t ∷ ts) rest x h = cc

  alike_none : (us : List T) → Alike [] us → us ≡ []
  alike_none [] a = refl
  alike_none (u ∷ us) a = absurd a

  alike_place : {P : Type 0} (place : T → P) (p : P) (ts us : List T) → Alike ts us → place_in kind place ts ≡ Ok p → place_in kind place us ≡ Ok p
  alike_place place p [] us a h = cc
  alike_place place p (t ∷ ts) [] a h = absurd a
  alike_place place p (t ∷ ts) (u ∷ us) a h = ap (λ v. Ok (place v)) (sym a) ∙ h

  append_none : (front rest : List T) → front ++ rest ≡ [] → (front ≡ []) × (rest ≡ [])
  append_none [] rest h = (refl, h)
  append_none (t ∷ front) rest h = cc

  pub law_at : {A P : Type 0} {L LB : A → List T → Type 0} {C : Fault → List T → Type 0} {read : List T → Read T A} {f m : List ℕ} {e : Bool}
      (place : T → P) → Law kind L LB C read f e m → e ≡ false → Law kind (At_place place L) (At_place place LB) C (at_in place read) f e m
  law_at {A = A} {P = P} {L = L} {LB = LB} {C = C} {read = read} {f = f} {m = m} {e = e} place one full = record {
    sound = λ ts c rest h.
        let b = bind_ok (place_in kind place ts) (λ p. read ts >>= λ a. Ok ((p, a.0), a.1)) (c, rest) h in
        let p = bind_ok (read ts) (λ a. Ok ((b.0, a.0), a.1)) (c, rest) b.2 in
        let both = ok_same ((b.0, p.0.0), p.0.1) (c, rest) p.2 in
        let t = one.sound ts p.0.0 p.0.1 p.1 in
        let at = place_stands place b.0 f t.front p.0.1 (nonempty t.front (one.begun p.0.0 t.front (one.grows p.0.0 t.front t.spelled))) (ap (place_in kind place) (sym t.is) ∙ b.1) in
        record { front = t.front; is = t.is ∙ ap (λ q. t.front ++ q.1) both; spelled = subst (λ q. At_place place L q.0 t.front) both (t.spelled, at) };
    complete = λ c front rest s stop.
        bind_at (place_in kind place (front ++ rest)) (λ p. read (front ++ rest) >>= λ a. Ok ((p, a.0), a.1)) c.0 (Ok (c, rest)) (place_there place c.0 front rest s.1)
        (bind_at (read (front ++ rest)) (λ a. Ok ((c.0, a.0), a.1)) (c.1, rest) (Ok (c, rest)) (one.complete c.1 front rest s.0 stop) refl);
    grows = λ c ts s. (one.grows c.1 ts s.0, s.1);
    begun = λ c front s. one.begun c.1 front s.0;
    some =
        let l = one.some in
        let p = first_place place f l.behind (nonempty l.behind (one.begun l.thing l.behind l.spelled)) in
        record { thing = (p.0, l.thing); behind = l.behind; spelled = (l.spelled, p.1) };
    fails = λ ts rest x h. elim (bind_err (place_in kind place ts) (λ p. read ts >>= λ a. Ok ((p, a.0), a.1)) (x, rest) h) [
      | inl none ↦ (
          let n = no_place place ts rest x none in
          let l = one.some in
          let p = first_place place f l.behind (nonempty l.behind (one.begun l.thing l.behind l.spelled)) in
          subst (λ y. Told (At_place place LB) C y ts rest) n.0 (record { front = []; is = n.1 ∙ sym n.2; thing = (p.0, l.thing); behind = l.behind; spelled = (l.spelled, p.1) }))
      | inr goes ↦ (elim (bind_err (read ts) (λ a. Ok ((goes.0, a.0), a.1)) (x, rest) goes.2) [
        | inl stops ↦ told_in kind LB (At_place place LB) C C placed (λ y front c. c) x ts rest (one.fails ts rest x stops)
        | inr ends ↦ (let z = ends.2 in cc)
      ])
    ];
    tells = λ front behind x c.
        let t = one.tells front behind x c in
        let p = some_place place f front behind (crossing_begins kind one front x c) in
        record {
          before = t.before;
          token = t.token;
          is = t.is;
          told =
              bind_at (place_in kind place (front ++ behind)) (λ p. read (front ++ behind) >>= λ a. Ok ((p, a.0), a.1)) p.0 (Err (x, t.token ∷ behind)) p.1
              (bind_stops (read (front ++ behind)) (λ a. Ok ((p.0, a.0), a.1)) (x, t.token ∷ behind) t.told);
        };
    leads = λ front x c. placed front (one.leads front x c);
    limits = one.limits;
    blind_ok = λ front rest us c h alike.
        let b = bind_ok (place_in kind place (front ++ rest)) (λ p. read (front ++ rest) >>= λ a. Ok ((p, a.0), a.1)) (c, rest) h in
        let p = bind_ok (read (front ++ rest)) (λ a. Ok ((b.0, a.0), a.1)) (c, rest) b.2 in
        let both = ok_same ((b.0, p.0.0), p.0.1) (c, rest) p.2 in
        bind_at (place_in kind place (front ++ us)) (λ p. read (front ++ us) >>= λ a. Ok ((p, a.0), a.1)) b.0 (Ok (c, us)) (alike_place place b.0 (front ++ rest) (front ++ us) (alike_behind front rest us alike) b.1)
        (bind_at (read (front ++ us)) (λ a. Ok ((b.0, a.0), a.1)) (p.0.0, us) (Ok (c, us)) (one.blind_ok front rest us p.0.0 (p.1 ∙ ap (λ q. Ok (p.0.0, q.1)) both) alike) (ap (λ q. Ok (q.0, us)) both));
    blind_err = λ front rest us x h alike. elim (bind_err (place_in kind place (front ++ rest)) (λ p. read (front ++ rest) >>= λ a. Ok ((p, a.0), a.1)) (x, rest) h) [
      | inl none ↦ (
          let n = no_place place (front ++ rest) rest x none in
          let none_us = alike_none us (subst (λ l. Alike l us) n.2 alike) in
          let none_front = (append_none front rest n.1).0 in
          ap (at_in place read) (ap (λ l. l ++ us) none_front ∙ none_us) ∙ ap (λ y. Err (y, [])) n.0 ∙ ap (λ l. Err (x, l)) (sym none_us))
      | inr goes ↦ (elim (bind_err (read (front ++ rest)) (λ a. Ok ((goes.0, a.0), a.1)) (x, rest) goes.2) [
        | inl stops ↦ bind_at (place_in kind place (front ++ us)) (λ p. read (front ++ us) >>= λ a. Ok ((p, a.0), a.1)) goes.0 (Err (x, us)) (alike_place place goes.0 (front ++ rest) (front ++ us) (alike_behind front rest us alike) goes.1)
            (bind_stops (read (front ++ us)) (λ a. Ok ((goes.0, a.0), a.1)) (x, us) (one.blind_err front rest us x stops alike))
        | inr ends ↦ (let z = ends.2 in cc)
      ])
    ];
  }
    where
      nonempty : (front : List T) → Begins kind f e front → Begins kind f false front
      nonempty front b = subst (λ z. Begins kind f z front) full b

      placed : (front : List T) → Leads LB front → Leads (At_place place LB) front
      placed front l =
          let p = first_place place f (front ++ l.behind) (nonempty (front ++ l.behind) (one.begun l.thing (front ++ l.behind) l.spelled)) in
          record { thing = (p.0, l.thing); behind = l.behind; spelled = (l.spelled, p.1) }
