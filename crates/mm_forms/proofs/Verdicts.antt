-- The verdict on all of the tokens: what is read, or the first fault; and that there is one verdict.
use Rattle.std.proofs.Common.{◌≡◌, ◌⊎◌, inl, inr, ℕ, List, [], ◌∷◌, ◌++◌, length, Result, Ok, Err, refl, sym, ◌∙◌, ap, subst, append_assoc, append-nil, arith, length-append}
use Rattle.mm_forms.specs.declared.fault.Fault.{Fault}
use Rattle.mm_forms.specs.declared.fault.Fault.TheVariants.{Unfit, TooMany, TooDeep}
use Rattle.mm_forms.specs.Forms.{Read}
use Rattle.mm_forms.specs.Verdict.{GoesOn, EndsThere, IsUnfit, IsPast, IsFault, whole_in, only_if_done}
use Rattle.mm_forms.proofs.Fronts.{Leads, bind_ok, bind_err, bind_stops, ok_same, err_same}
use Rattle.mm_forms.proofs.Laws.{Law, Stops}
use Rattle.mm_forms.proofs.Spellings.{Crossing}

module _ {T A : Type 0} (kind : T → ℕ) {L B : A → List T → Type 0} {C : Fault → List T → Type 0} {read : List T → Read T A} {f m : List ℕ} {e : _}
    (law : Law kind L B C read f e m) (split : (a : A) (ts : List T) → B a ts → L a ts ⊎ Crossing C ts)
    (W : A → List T → Type 0) (to : (a : A) (ts : List T) → W a ts → B a ts) (from : (a : A) (ts : List T) → B a ts → W a ts) where
  -- what all of the tokens are read as
  done_only : (ts : List T) (x a : A) → only_if_done ts x ≡ Ok a → (ts ≡ []) × (x ≡ a)
  done_only [] x a h = (refl, ok_same x a h)
  done_only (t ∷ ts) x a h = cc

  stops_end : Stops kind m []
  stops_end = refl

  pub whole_sound : (ts : List T) (a : A) → whole_in (read ts) ≡ Ok a → L a ts
  whole_sound ts a h =
      let b = bind_ok (read ts) (λ x. only_if_done x.1 x.0) a h in
      let d = done_only b.0.1 b.0.0 a b.2 in
      let t = law.sound ts b.0.0 b.0.1 b.1 in
      subst (λ z. L a z) (sym (t.is ∙ ap (λ z. t.front ++ z) d.0 ∙ append-nil t.front)) (subst (λ c. L c t.front) d.1 t.spelled)

  pub read_whole : (ts : List T) (a : A) → L a ts → read ts ≡ Ok (a, [])
  read_whole ts a s = ap read (sym (append-nil ts)) ∙ law.complete a ts [] s stops_end

  -- past a limit, the reading is told so
  past_read : (x : Fault) (begin end' : List T) → C x begin → (token : T) × (read (begin ++ end') ≡ Err (x, token ∷ end'))
  past_read x begin end' c = let t = law.tells begin end' x c in (t.token, t.told)

  longer : (t : T) (h rest : List T) → t ∷ (h ++ rest) ≡ rest → ⊥
  longer t h rest q = let l : length (t ∷ (h ++ rest)) ≡ length rest = ap length q in absurd (omega (arith, l, length-append h rest))

  -- where the reading stops, nothing before goes past a limit
  kept_err : (front rest : List T) (x : Fault) → read (front ++ rest) ≡ Err (x, rest) → (begin end' : List T) (y : Fault) → front ≡ begin ++ end' → C y begin → ⊥
  kept_err front rest x h begin end' y is c =
      let p = past_read y begin (end' ++ rest) c in
      let same : (begin ++ end') ++ rest ≡ begin ++ (end' ++ rest) = append_assoc begin end' rest in
      let both = err_same (y, p.0 ∷ (end' ++ rest)) (x, rest) (sym p.1 ∙ ap read (sym (ap (λ z. z ++ rest) is ∙ same)) ∙ h) in
      longer p.0 end' rest (ap (λ q. q.1) both)

  kept_ok : (front rest : List T) (a : A) → read (front ++ rest) ≡ Ok (a, rest) → (begin end' : List T) (y : Fault) → front ≡ begin ++ end' → C y begin → ⊥
  kept_ok front rest a h begin end' y is c =
      let p = past_read y begin (end' ++ rest) c in
      let same : (begin ++ end') ++ rest ≡ begin ++ (end' ++ rest) = append_assoc begin end' rest in
      let z = sym p.1 ∙ ap read (sym (ap (λ z. z ++ rest) is ∙ same)) ∙ h in
      cc

  -- what is read of tokens that are a text, whatever the limits: all, or up to what goes past one
  any_read : (a : A) (ts : List T) → B a ts → (read ts ≡ Ok (a, [])) ⊎ ((x : Fault) × (token : T) × (before : List T) × (behind : List T) × (ts ≡ before ++ token ∷ behind) × C x (before ++ token ∷ []) × (read ts ≡ Err (x, token ∷ behind)))
  any_read a ts s = elim (split a ts s) [
    | inl l ↦ inl (read_whole ts a l)
    | inr c ↦ (
        let t = law.tells c.1 c.2 c.0 c.4 in
        let is : ts ≡ t.before ++ t.token ∷ c.2 = c.3 ∙ ap (λ z. z ++ c.2) t.is ∙ append_assoc t.before (t.token ∷ []) c.2 in
        inr (c.0, t.token, t.before, c.2, is, subst (λ z. C c.0 z) t.is c.4, ap read c.3 ∙ t.told))
  ]

  -- no text goes on where the reading stops at a token that does not go past a limit
  ends_err : (front rest : List T) → read (front ++ rest) ≡ Err (Unfit, rest) → EndsThere W C front rest
  ends_err front [] h = λ a w. elim (any_read a front (to a front w)) [
    | inl ok ↦ (let z = sym ok ∙ ap read (sym (append-nil front)) ∙ h in cc)
    | inr p ↦ (let both = err_same (p.0, p.1 ∷ p.3) (Unfit, []) (sym p.6 ∙ ap read (sym (append-nil front)) ∙ h) in let z = ap (λ q. q.1) both in cc)
  ]
  ends_err front (t ∷ rest) h = λ a behind w.
      let moved : read (front ++ t ∷ behind) ≡ Err (Unfit, t ∷ behind) = law.blind_err front (t ∷ rest) (t ∷ behind) Unfit h refl in
      elim (any_read a (front ++ t ∷ behind) (to a (front ++ t ∷ behind) w)) [
        | inl ok ↦ (let z = sym ok ∙ moved in cc)
        | inr p ↦ absurd (law.limits (p.2 ++ p.1 ∷ []) (subst (λ y. C y (p.2 ++ p.1 ∷ [])) (ap (λ q. q.0) (err_same (p.0, p.1 ∷ p.3) (Unfit, t ∷ behind) (sym p.6 ∙ moved))) p.5))
      ]

  -- no text goes on where something is left behind what was read
  ends_ok : (front rest : List T) (t : T) (a : A) → read (front ++ t ∷ rest) ≡ Ok (a, t ∷ rest) → EndsThere W C front (t ∷ rest)
  ends_ok front rest t a h = λ b behind w.
      let moved : read (front ++ t ∷ behind) ≡ Ok (a, t ∷ behind) = law.blind_ok front (t ∷ rest) (t ∷ behind) a h refl in
      elim (any_read b (front ++ t ∷ behind) (to b (front ++ t ∷ behind) w)) [
        | inl ok ↦ (let both = ok_same (b, []) (a, t ∷ behind) (sym ok ∙ moved) in let z = ap (λ q. q.1) both in cc)
        | inr p ↦ (let z = sym p.6 ∙ moved in cc)
      ]

  can_go_on : (front : List T) → Leads B front → GoesOn W C front
  can_go_on front l = record { thing = l.thing; behind = l.behind; is_whole = from l.thing (front ++ l.behind) l.spelled }

  err_told : (ts rest : List T) (x : Fault) → read ts ≡ Err (x, rest) → IsFault W C x ts rest
  err_told ts rest Unfit h =
      let t = law.fails ts rest Unfit h in
      let h' : read (t.front ++ rest) ≡ Err (Unfit, rest) = ap read (sym t.is) ∙ h in
      record { front = t.front; is = t.is; can = can_go_on t.front (record { thing = t.thing; behind = t.behind; spelled = t.spelled }); cannot = ends_err t.front rest h'; kept = kept_err t.front rest Unfit h' }
  err_told ts rest TooMany h = let t = law.fails ts rest TooMany h in record { front = t.front; token = t.token; behind = t.behind; is = t.is; rest_is = t.rest_is; past = t.crossed }
  err_told ts rest TooDeep h = let t = law.fails ts rest TooDeep h in record { front = t.front; token = t.token; behind = t.behind; is = t.is; rest_is = t.rest_is; past = t.crossed }

  left_told : (ts : List T) (a : A) (t : T) (rest : List T) → read ts ≡ Ok (a, t ∷ rest) → IsFault W C Unfit ts (t ∷ rest)
  left_told ts a t rest h =
      let s = law.sound ts a (t ∷ rest) h in
      let h' : read (s.front ++ t ∷ rest) ≡ Ok (a, t ∷ rest) = ap read (sym s.is) ∙ h in
      record { front = s.front; is = s.is; can = can_go_on s.front (record { thing = a; behind = []; spelled = subst (B a) (sym (append-nil s.front)) (law.grows a s.front s.spelled) }); cannot = ends_ok s.front rest t a h'; kept = kept_ok s.front (t ∷ rest) a h' }

  -- where all of the tokens are not read, the fault is told
  pub whole_told : (ts rest : List T) (x : Fault) → whole_in (read ts) ≡ Err (x, rest) → IsFault W C x ts rest
  whole_told ts rest x h = elim (bind_err (read ts) (λ y. only_if_done y.1 y.0) (x, rest) h) [
    | inl stops ↦ err_told ts rest x stops
    | inr goes ↦ by goes.0.0 goes.0.1 goes.1 goes.2
  ]
    where
      by : (a : A) (us : List T) → read ts ≡ Ok (a, us) → only_if_done us a ≡ Err (x, rest) → IsFault W C x ts rest
      by a [] r d = cc
      by a (u ∷ us) r d =
          let both = err_same (Unfit, u ∷ us) (x, rest) d in
          subst (λ q. IsFault W C q.0 ts q.1) both (left_told ts a u us r)

  -- There is one verdict.

  -- of two fronts of a list, the one goes on with the other
  cuts : (xs ys us vs : List T) → xs ++ ys ≡ us ++ vs → ((zs : List T) × (us ≡ xs ++ zs) × (ys ≡ zs ++ vs)) ⊎ ((z : T) × (zs : List T) × (xs ≡ us ++ z ∷ zs) × (vs ≡ z ∷ (zs ++ ys)))
  cuts [] ys us vs q = inl (us, refl, q)
  cuts (x ∷ xs) ys [] vs q = inr (x, xs, refl, sym q)
  cuts (x ∷ xs) ys (u ∷ us) vs q = elim (cuts xs ys us vs cc) [
    | inl c ↦ inl (c.0, ap (λ z. u ∷ z) c.1 ∙ ap (λ z. z ∷ (xs ++ c.0)) cc, c.2)
    | inr c ↦ inr (c.0, c.1, ap (λ z. x ∷ z) c.2 ∙ ap (λ z. z ∷ (us ++ c.0 ∷ c.1)) cc, c.3)
  ]

  -- a front that goes on does not hold a token at which no text goes on
  stuck : (front rest longer' : List T) (z : T) (zs vs : List T) → EndsThere W C front rest → rest ≡ z ∷ vs → longer' ≡ front ++ z ∷ zs → GoesOn W C longer' → ⊥
  stuck front [] longer' z zs vs ends is eq g = cc
  stuck front (t ∷ rest) longer' z zs vs ends is eq g =
      let same : z ≡ t = cc in
      ends g.thing (zs ++ g.behind) (subst (λ l. W g.thing l) (ap (λ l. l ++ g.behind) eq ∙ append_assoc front (z ∷ zs) g.behind ∙ ap (λ u. front ++ u ∷ (zs ++ g.behind)) same) g.is_whole)

  two_unfit : (ts rest others : List T) → IsUnfit W C ts rest → IsUnfit W C ts others → rest ≡ others
  two_unfit ts rest others a b = elim (cuts a.front rest b.front others (sym a.is ∙ b.is)) [
    | inl c ↦ (by c.0 c.1 c.2)
    | inr c ↦ absurd (stuck b.front others a.front c.0 c.1 (c.1 ++ rest) b.cannot c.3 c.2 a.can)
  ]
    where
      by : (zs : List T) → b.front ≡ a.front ++ zs → rest ≡ zs ++ others → rest ≡ others
      by [] p q = q
      by (z ∷ zs) p q = absurd (stuck a.front rest b.front z zs (zs ++ others) a.cannot q p b.can)

  unfit_past : (ts rest others : List T) (x : Fault) → IsUnfit W C ts rest → IsPast W C x ts others → ⊥
  unfit_past ts rest others x a p = elim (cuts a.front rest reached p.behind (sym a.is ∙ p.is ∙ sym (append_assoc p.front (p.token ∷ []) p.behind))) [
    | inl c ↦ by c.0 c.1 c.2
    | inr c ↦ a.kept reached (c.0 ∷ c.1) x c.2 p.past
  ]
    where
      reached : List T
      reached = p.front ++ p.token ∷ []

      by : (zs : List T) → reached ≡ a.front ++ zs → rest ≡ zs ++ p.behind → ⊥
      by [] q r = a.kept a.front [] x (sym (append-nil a.front)) (subst (λ z. C x z) (q ∙ append-nil a.front) p.past)
      by (z ∷ zs) q r = stuck a.front rest reached z zs (zs ++ p.behind) a.cannot r q (can_go_on reached (law.leads reached x p.past))

  unfit_text : (ts rest : List T) (a : A) → IsUnfit W C ts rest → L a ts → ⊥
  unfit_text ts rest a u s = by rest u.cannot u.is
    where
      by : (r : List T) → EndsThere W C u.front r → ts ≡ u.front ++ r → ⊥
      by [] ends is = ends a (subst (λ z. W a z) (is ∙ append-nil u.front) (from a ts (law.grows a ts s)))
      by (t ∷ r) ends is = ends a r (subst (λ z. W a z) is (from a ts (law.grows a ts s)))

  pub text_whole : (ts : List T) (a : A) → L a ts → whole_in (read ts) ≡ Ok a
  text_whole ts a s = ap whole_in (read_whole ts a s)

  past_whole : (x : Fault) (ts rest : List T) → IsPast W C x ts rest → whole_in (read ts) ≡ Err (x, rest)
  past_whole x ts rest p =
      let t = law.tells (p.front ++ p.token ∷ []) p.behind x p.past in
      let is : ts ≡ (p.front ++ p.token ∷ []) ++ p.behind = p.is ∙ sym (append_assoc p.front (p.token ∷ []) p.behind) in
      let same : p.token ≡ t.token = last_same p.front t.before p.token t.token t.is in
      bind_stops (read ts) (λ y. only_if_done y.1 y.0) (x, rest) (ap read is ∙ t.told ∙ ap (λ u. Err (x, u ∷ p.behind)) (sym same) ∙ ap (λ z. Err (x, z)) (sym p.rest_is))
    where
      last_same : (xs ys : List T) (u v : T) → xs ++ u ∷ [] ≡ ys ++ v ∷ [] → u ≡ v
      last_same [] [] u v q = cc
      last_same [] (y ∷ []) u v q = cc
      last_same [] (y ∷ z ∷ ys) u v q = cc
      last_same (x ∷ []) [] u v q = cc
      last_same (x ∷ z ∷ xs) [] u v q = cc
      last_same (x ∷ xs) (y ∷ ys) u v q = last_same xs ys u v cc

  unfit_whole : (ts rest : List T) → IsUnfit W C ts rest → whole_in (read ts) ≡ Err (Unfit, rest)
  unfit_whole ts rest u = by (whole_in (read ts)) refl
    where
      told : (x : Fault) (others : List T) → whole_in (read ts) ≡ Err (x, others) → IsFault W C x ts others → ◌≡◌ {A = Result A (Fault × List T)} (Err (x, others)) (Err (Unfit, rest))
      told Unfit others h v = ap (λ z. Err (Unfit, z)) (two_unfit ts others rest v u)
      told TooMany others h v = absurd (unfit_past ts rest others TooMany u v)
      told TooDeep others h v = absurd (unfit_past ts rest others TooDeep u v)

      by : (r : Result A (Fault × List T)) → whole_in (read ts) ≡ r → r ≡ Err (Unfit, rest)
      by (Ok a) h = absurd (unfit_text ts rest a u (whole_sound ts a h))
      by (Err y) h = told y.0 y.1 h (whole_told ts y.1 y.0 h)

  pub fault_whole : (x : Fault) (ts rest : List T) → IsFault W C x ts rest → whole_in (read ts) ≡ Err (x, rest)
  fault_whole Unfit ts rest u = unfit_whole ts rest u
  fault_whole TooMany ts rest p = past_whole TooMany ts rest p
  fault_whole TooDeep ts rest p = past_whole TooDeep ts rest p

  -- one list of tokens is one text
  pub one_text : (ts : List T) (a b : A) → L a ts → L b ts → a ≡ b
  one_text ts a b s t = ok_same a b (sym (text_whole ts a s) ∙ text_whole ts b t)

  -- what is a text has no fault
  pub no_fault : (ts rest : List T) (a : A) (x : Fault) → L a ts → IsFault W C x ts rest → ⊥
  no_fault ts rest a x s v = let z = sym (text_whole ts a s) ∙ fault_whole x ts rest v in cc

  -- and there is one first fault
  pub one_fault : (ts rest others : List T) (x y : Fault) → IsFault W C x ts rest → IsFault W C y ts others → (x ≡ y) × (rest ≡ others)
  one_fault ts rest others x y v w =
      let both = err_same (x, rest) (y, others) (sym (fault_whole x ts rest v) ∙ fault_whole y ts others w) in
      (ap (λ q. q.0) both, ap (λ q. q.1) both)
