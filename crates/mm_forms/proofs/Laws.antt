-- The law of a language that is read from the front by one token of look-ahead, and of the same language in other words.
use Rattle.std.proofs.Common.{◌≡◌, inl, inr, ℕ, List, [], ◌∷◌, ◌++◌, Bool, true, false, cond, ◌&&◌, Ok, Err, refl, sym, ◌∙◌, ap, subst}
use Rattle.mm_forms.specs.declared.fault.Fault.{Fault}
use Rattle.mm_forms.specs.declared.fault.Fault.TheVariants.{Unfit, TooMany, TooDeep}
use Rattle.mm_forms.specs.Forms.{has, apart, ◌>>=◌, Read, begins}
use Rattle.mm_forms.proofs.Numbers.{apart_in, has_left, has_right, not_left, not_right, subset, has_not}
use Rattle.mm_forms.proofs.Fronts.{bind_ok, bind_err, bind_at, bind_stops, ok_same, nothing_before, Takes, Told, Tells, Leads, Alike}

module _ {T : Type 0} (kind : T → ℕ) where
  -- no token of these kinds follows
  abbrev pub Stops : List ℕ → List T → Type 0
  Stops kinds ts = begins kind kinds ts ≡ false

  -- the first token is of one of these kinds; there may be none only where that is said
  abbrev pub Begins : List ℕ → Bool → List T → Type 0
  Begins kinds empty [] = empty ≡ true
  Begins kinds empty (t ∷ ts) = has (kind t) kinds ≡ true

  pub record Law {A : Type 0} (L B : A → List T → Type 0) (C : Fault → List T → Type 0) (read : List T → Read T A) (first : List ℕ) (empty : Bool) (more : List ℕ) : Type 0 where
    -- what is read is spelled, and what is spelled is read where no token follows that would go on
    pub sound : (ts : List T) (a : A) (rest : List T) → read ts ≡ Ok (a, rest) → Takes (L a) ts rest
    pub complete : (a : A) (front rest : List T) → L a front → Stops more rest → read (front ++ rest) ≡ Ok (a, rest)
    -- the larger language, in which nothing is too deep or too many
    pub grows : (a : A) (ts : List T) → L a ts → B a ts
    pub begun : (a : A) (front : List T) → B a front → Begins first empty front
    pub some : Leads B []
    -- a fault is told with its cause, and each crossing is told
    pub fails : (ts rest : List T) (x : Fault) → read ts ≡ Err (x, rest) → Told B C x ts rest
    pub tells : (front behind : List T) (x : Fault) → C x front → Tells read x front behind
    pub leads : (front : List T) (x : Fault) → C x front → Leads B front
    pub limits : (front : List T) → C Unfit front → ⊥
    -- of the rest only its first token is seen
    pub blind_ok : (front rest us : List T) (a : A) → read (front ++ rest) ≡ Ok (a, rest) → Alike rest us → read (front ++ us) ≡ Ok (a, us)
    pub blind_err : (front rest us : List T) (x : Fault) → read (front ++ rest) ≡ Err (x, rest) → Alike rest us → read (front ++ us) ≡ Err (x, us)

  pub stops_left : (m n : List ℕ) (ts : List T) → Stops (m ++ n) ts → Stops m ts
  stops_left m n [] s = s
  stops_left m n (t ∷ ts) s = not_left (kind t) m n s

  pub stops_right : (m n : List ℕ) (ts : List T) → Stops (m ++ n) ts → Stops n ts
  stops_right m n [] s = s
  stops_right m n (t ∷ ts) s = not_right (kind t) m n s

  pub stops_subset : (ms ns : List ℕ) → subset ms ns ≡ true → (ts : List T) → Stops ns ts → Stops ms ts
  stops_subset ms ns s [] h = refl
  stops_subset ms ns s (t ∷ ts) h = has_not (kind t) ms ns s h

  -- what begins otherwise stops
  pub stops_before : (m f : List ℕ) (e : Bool) (back rest : List T) → Begins f e back → apart m f ≡ true → (e ≡ true → Stops m rest) → Stops m (back ++ rest)
  stops_before m f e [] rest b a s = s b
  stops_before m f e (t ∷ back) rest b a s = apart_in m f (kind t) a b

  -- where the second part may be empty, what follows it follows the first
  pub stops_at : (m n : List ℕ) (d : Bool) (rest : List T) → Stops (n ++ cond d m []) rest → d ≡ true → Stops m rest
  stops_at m n true rest s w = stops_right n m rest s
  stops_at m n false rest s w = cc

  pub begins_joined : (f g : List ℕ) (e d : Bool) (front back : List T) → Begins f e front → Begins g d back → Begins (f ++ cond e g []) (e && d) (front ++ back)
  begins_joined f g e d (t ∷ front) back b c = has_left (kind t) f (cond e g []) b
  begins_joined f g true d [] (t ∷ back) b c = has_right (kind t) f g c
  begins_joined f g true d [] [] b c = c
  begins_joined f g false d [] back b c = cc

  pub begins_on : (f : List ℕ) (front rest : List T) → Begins f false front → begins kind f (front ++ rest) ≡ true
  begins_on f (t ∷ front) rest b = b
  begins_on f [] rest b = cc

  pub begins_left : (f g : List ℕ) (d : Bool) (front : List T) → Begins f false front → Begins (f ++ g) d front
  begins_left f g d (t ∷ front) b = has_left (kind t) f g b
  begins_left f g d [] b = cc

  pub begins_right : (f g : List ℕ) (d : Bool) (front : List T) → Begins g d front → Begins (f ++ g) d front
  begins_right f g d (t ∷ front) b = has_right (kind t) f g b
  begins_right f g d [] b = b

  pub begins_alike : (f : List ℕ) (ts us : List T) → Alike ts us → begins kind f ts ≡ begins kind f us
  begins_alike f [] [] a = refl
  begins_alike f [] (u ∷ us) a = absurd a
  begins_alike f (t ∷ ts) [] a = absurd a
  begins_alike f (t ∷ ts) (u ∷ us) a = ap (λ v. has (kind v) f) a

  -- what goes past a limit begins as a spelling does
  front_begins : (f : List ℕ) (e : Bool) (before : List T) (t : T) (behind : List T) → Begins f e ((before ++ t ∷ []) ++ behind) → Begins f false (before ++ t ∷ [])
  front_begins f e [] t behind b = b
  front_begins f e (u ∷ before) t behind b = b

  pub crossing_begins : {A : Type 0} {L B : A → List T → Type 0} {C : Fault → List T → Type 0} {read : List T → Read T A} {f m : List ℕ} {e : Bool}
      → Law L B C read f e m → (front : List T) (x : Fault) → C x front → Begins f false front
  crossing_begins {f = f} {e = e} one front x c =
      let t = one.tells front [] x c in
      let l = one.leads front x c in
      subst (Begins f false) (sym t.is) (front_begins f e t.before t.token l.behind (subst (λ z. Begins f e (z ++ l.behind)) t.is (one.begun l.thing (front ++ l.behind) l.spelled)))

  -- nothing is written

  pub law_nothing : {A : Type 0} (a : A) → Law (λ b ts. (b ≡ a) × (ts ≡ [])) (λ b ts. (b ≡ a) × (ts ≡ [])) (λ x ts. ⊥) (λ ts. Ok (a, ts)) [] true []
  law_nothing a = record {
    sound = λ ts b rest h. let both = ok_same (a, ts) (b, rest) h in record { front = []; is = ap (λ p. p.1) both; spelled = (sym (ap (λ p. p.0) both), refl) };
    complete = λ b front rest s stop. ap (λ l. Ok (a, l ++ rest)) s.1 ∙ ap (λ c. Ok (c, rest)) (sym s.0);
    grows = λ b ts s. s;
    begun = λ b front s. subst (Begins [] true) (sym s.1) refl;
    some = record { thing = a; behind = []; spelled = (refl, refl) };
    fails = λ ts rest x h. cc;
    tells = λ front behind x c. absurd c;
    leads = λ front x c. absurd c;
    limits = λ front c. c;
    blind_ok = λ front rest us b h alike. let both = ok_same (a, front ++ rest) (b, rest) h in ap (λ l. Ok (a, l ++ us)) (nothing_before front rest (ap (λ p. p.1) both)) ∙ ap (λ c. Ok (c, us)) (ap (λ p. p.0) both);
    blind_err = λ front rest us x h alike. cc;
  }

  -- what is told of one language is told of another that takes it in
  pub told_in : {A B : Type 0} (L : A → List T → Type 0) (M : B → List T → Type 0) (C D : Fault → List T → Type 0)
      → ((front : List T) → Leads L front → Leads M front) → ((x : Fault) (front : List T) → C x front → D x front) → (x : Fault) (ts rest : List T) → Told L C x ts rest → Told M D x ts rest
  told_in L M C D to crossing Unfit ts rest t = let l = to t.front (record { thing = t.thing; behind = t.behind; spelled = t.spelled }) in record { front = t.front; is = t.is; thing = l.thing; behind = l.behind; spelled = l.spelled }
  told_in L M C D to crossing TooMany ts rest t = record { front = t.front; token = t.token; behind = t.behind; is = t.is; rest_is = t.rest_is; crossed = crossing TooMany (t.front ++ t.token ∷ []) t.crossed }
  told_in L M C D to crossing TooDeep ts rest t = record { front = t.front; token = t.token; behind = t.behind; is = t.is; rest_is = t.rest_is; crossed = crossing TooDeep (t.front ++ t.token ∷ []) t.crossed }

  -- a part of which this is made

  pub law_made : {A B : Type 0} {L LB : A → List T → Type 0} {C : Fault → List T → Type 0} {read : List T → Read T A} {f m : List ℕ} {e : Bool}
      (make : A → B) → Law L LB C read f e m
      → Law (λ b ts. (a : A) × (b ≡ make a) × L a ts) (λ b ts. (a : A) × (b ≡ make a) × LB a ts) C (λ ts. read ts >>= λ a. Ok (make a.0, a.1)) f e m
  law_made {A = A} {B = B} {L = L} {LB = LB} {C = C} {read = read} {f = f} {m = m} {e = e} make one = record {
    sound = λ ts b rest h.
        let p = bind_ok (read ts) (λ a. Ok (make a.0, a.1)) (b, rest) h in
        let both = ok_same (make p.0.0, p.0.1) (b, rest) p.2 in
        let t = one.sound ts p.0.0 p.0.1 p.1 in
        record { front = t.front; is = t.is ∙ ap (λ q. t.front ++ q.1) both; spelled = (p.0.0, sym (ap (λ q. q.0) both), t.spelled) };
    complete = λ b front rest s stop. bind_at (read (front ++ rest)) (λ a. Ok (make a.0, a.1)) (s.0, rest) (Ok (b, rest)) (one.complete s.0 front rest s.2 stop) (ap (λ c. Ok (c, rest)) (sym s.1));
    grows = λ b ts s. (s.0, s.1, one.grows s.0 ts s.2);
    begun = λ b front s. one.begun s.0 front s.2;
    some = let l = one.some in record { thing = make l.thing; behind = l.behind; spelled = (l.thing, refl, l.spelled) };
    fails = λ ts rest x h. elim (bind_err (read ts) (λ a. Ok (make a.0, a.1)) (x, rest) h) [
      | inl stops ↦ told_in LB (λ b us. (a : A) × (b ≡ make a) × LB a us) C C (λ front l. record { thing = make l.thing; behind = l.behind; spelled = (l.thing, refl, l.spelled) }) (λ y front c. c) x ts rest (one.fails ts rest x stops)
      | inr ends ↦ (let z = ends.2 in cc)
    ];
    tells = λ front behind x c. let t = one.tells front behind x c in record { before = t.before; token = t.token; is = t.is; told = bind_stops (read (front ++ behind)) (λ a. Ok (make a.0, a.1)) (x, t.token ∷ behind) t.told };
    leads = λ front x c. let l = one.leads front x c in record { thing = make l.thing; behind = l.behind; spelled = (l.thing, refl, l.spelled) };
    limits = one.limits;
    blind_ok = λ front rest us b h alike.
        let p = bind_ok (read (front ++ rest)) (λ a. Ok (make a.0, a.1)) (b, rest) h in
        let both = ok_same (make p.0.0, p.0.1) (b, rest) p.2 in
        bind_at (read (front ++ us)) (λ a. Ok (make a.0, a.1)) (p.0.0, us) (Ok (b, us)) (one.blind_ok front rest us p.0.0 (p.1 ∙ ap (λ q. Ok (p.0.0, q.1)) both) alike) (ap (λ q. Ok (q.0, us)) both);
    blind_err = λ front rest us x h alike. elim (bind_err (read (front ++ rest)) (λ a. Ok (make a.0, a.1)) (x, rest) h) [
      | inl stops ↦ bind_stops (read (front ++ us)) (λ a. Ok (make a.0, a.1)) (x, us) (one.blind_err front rest us x stops alike)
      | inr ends ↦ (let z = ends.2 in cc)
    ];
  }

  -- the same language in other words

  pub law_same : {A : Type 0} {L LB M MB : A → List T → Type 0} {C D : Fault → List T → Type 0} {read other : List T → Read T A} {f g m n : List ℕ} {e : Bool}
      → ((a : A) (ts : List T) → L a ts → M a ts) → ((a : A) (ts : List T) → M a ts → L a ts)
      → ((a : A) (ts : List T) → LB a ts → MB a ts) → ((a : A) (ts : List T) → MB a ts → LB a ts)
      → ((x : Fault) (ts : List T) → C x ts → D x ts) → ((x : Fault) (ts : List T) → D x ts → C x ts)
      → ((ts : List T) → read ts ≡ other ts) → ((k : ℕ) → has k f ≡ true → has k g ≡ true) → ((ts : List T) → Stops n ts → Stops m ts)
      → Law L LB C read f e m → Law M MB D other g e n
  law_same {A = A} {L = L} {LB = LB} {M = M} {MB = MB} {C = C} {D = D} {read = read} {other = other} {f = f} {g = g} {e = e} to from to_b from_b to_c from_c reads wider stops one = record {
    sound = λ ts a rest h. let t = one.sound ts a rest (reads ts ∙ h) in record { front = t.front; is = t.is; spelled = to a t.front t.spelled };
    complete = λ a front rest s stop. sym (reads (front ++ rest)) ∙ one.complete a front rest (from a front s) (stops rest stop);
    grows = λ a ts s. to_b a ts (one.grows a ts (from a ts s));
    begun = λ a front s. widened front (one.begun a front (from_b a front s));
    some = let l = one.some in record { thing = l.thing; behind = l.behind; spelled = to_b l.thing l.behind l.spelled };
    fails = λ ts rest x h. told_in LB MB C D (λ front l. record { thing = l.thing; behind = l.behind; spelled = to_b l.thing (front ++ l.behind) l.spelled }) to_c x ts rest (one.fails ts rest x (reads ts ∙ h));
    tells = λ front behind x c. let t = one.tells front behind x (from_c x front c) in record { before = t.before; token = t.token; is = t.is; told = sym (reads (front ++ behind)) ∙ t.told };
    leads = λ front x c. let l = one.leads front x (from_c x front c) in record { thing = l.thing; behind = l.behind; spelled = to_b l.thing (front ++ l.behind) l.spelled };
    limits = λ front c. one.limits front (from_c Unfit front c);
    blind_ok = λ front rest us a h alike. sym (reads (front ++ us)) ∙ one.blind_ok front rest us a (reads (front ++ rest) ∙ h) alike;
    blind_err = λ front rest us x h alike. sym (reads (front ++ us)) ∙ one.blind_err front rest us x (reads (front ++ rest) ∙ h) alike;
  }
    where
      widened : (front : List T) → Begins f e front → Begins g e front
      widened [] b = b
      widened (t ∷ front) b = wider (kind t) b

  pub law_flag : {A : Type 0} {L LB : A → List T → Type 0} {C : Fault → List T → Type 0} {read : List T → Read T A} {f m : List ℕ} {e d : Bool} → e ≡ d → Law L LB C read f e m → Law L LB C read f d m
  law_flag {L = L} {LB = LB} {C = C} {read = read} {f = f} {m = m} is one = subst (λ b. Law L LB C read f b m) is one
