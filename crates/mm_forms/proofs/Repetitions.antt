-- The law of parts that stand one after the other, as many as there are.
use Rattle.std.proofs.Common.{◌≡◌, ◌⊎◌, inl, inr, ℕ, List, [], ◌∷◌, ◌++◌, true, false, cond, Ok, Err, refl, sym, ◌∙◌, ap, subst, append_assoc, zero, suc, ◌+◌, ◌<◌, ◌≤◌, length, arith, length-append, append-nil}
use Rattle.mm_forms.specs.declared.fault.Fault.{Fault}
use Rattle.mm_forms.specs.Language.{Joined, each}
use Rattle.mm_forms.specs.Forms.{has, apart, ◌>>=◌, Read, begins, each_in}
use Rattle.mm_forms.proofs.Numbers.{has_none}
use Rattle.mm_forms.proofs.Laws.{Stops, Begins, Law, stops_left, stops_right, crossing_begins, law_nothing, told_in, law_made, law_same}
use Rattle.mm_forms.proofs.TwoParts.{Both, Either_crosses, both_in, law_then, law_or}

module _ {T : Type 0} (kind : T → ℕ) where
  -- as many as there are, one after the other

  module _ {A : Type 0} {L LB : ℕ → A → List T → Type 0} {C : ℕ → Fault → List T → Type 0} {read : ℕ → List T → Read T A} {f m : List ℕ}
      (law : (k : ℕ) → Law kind (L k) (LB k) (C k) (read k) f false m) (distinct : apart m f ≡ true) where
    -- no more than n
    abbrev pub Few : (ℕ → A → List T → Type 0) → ℕ → ℕ → List A → List T → Type 0
    Few M n k xs ts = (length xs ≤ n) × each M k xs ts

    abbrev pub Few_cross : ℕ → ℕ → Fault → List T → Type 0
    Few_cross n k x ts = (before : List A) × (length before < n) × Joined (each L k before) (C (k + length before) x) ts

    abbrev pub many_in : ℕ → ℕ → List T → Read T (List A)
    many_in n k ts = each_in kind (begins kind f) read n k ts

    none_to : (M : ℕ → A → List T → Type 0) (k : ℕ) (xs : List A) (ts : List T) → (xs ≡ []) × (ts ≡ []) → Few M 0 k xs ts
    none_to M k xs ts s = subst (λ z. Few M 0 k z ts) (sym s.0) (omega arith, s.1)

    none_from : (M : ℕ → A → List T → Type 0) (k : ℕ) (xs : List A) (ts : List T) → Few M 0 k xs ts → (xs ≡ []) × (ts ≡ [])
    none_from M k [] ts s = (refl, s.1)
    none_from M k (x ∷ xs) ts s = let l = s.0 in absurd (omega (arith, l))

    abbrev One_more : (ℕ → A → List T → Type 0) → ℕ → ℕ → List A → List T → Type 0
    One_more M n k xs ts = ((p : A × List A) × (xs ≡ p.0 ∷ p.1) × Both kind (M k) (λ a. Few M n (k + 1)) p ts) ⊎ ((xs ≡ []) × (ts ≡ []))

    more_to : (M : ℕ → A → List T → Type 0) (n k : ℕ) (xs : List A) (ts : List T) → One_more M n k xs ts → Few M (suc n) k xs ts
    more_to M n k xs ts (inl s) =
        let j = s.2 in
        let l = j.second.0 in
        subst (λ z. Few M (suc n) k z ts) (sym s.1) (omega (arith, l), record { front = j.front; back = j.back; is = j.is; first = j.first; second = j.second.1 })
    more_to M n k xs ts (inr s) = subst (λ z. Few M (suc n) k z ts) (sym s.0) (omega arith, s.1)

    more_from : (M : ℕ → A → List T → Type 0) (n k : ℕ) (xs : List A) (ts : List T) → Few M (suc n) k xs ts → One_more M n k xs ts
    more_from M n k [] ts s = inr (refl, s.1)
    more_from M n k (x ∷ xs) ts s =
        let l = s.0 in
        let j = s.1 in
        inl ((x, xs), refl, record { front = j.front; back = j.back; is = j.is; first = j.first; second = (omega (arith, l), j.second) })

    none_to_c : (k : ℕ) (x : Fault) (ts : List T) → ⊥ → Few_cross 0 k x ts
    none_to_c k x ts c = absurd c

    none_from_c : (k : ℕ) (x : Fault) (ts : List T) → Few_cross 0 k x ts → ⊥
    none_from_c k x ts c = let l = c.1 in absurd (omega (arith, l))

    abbrev More_cross : ℕ → ℕ → Fault → List T → Type 0
    More_cross n k x ts = Either_crosses kind (L k) (C k) (λ a. Few_cross n (k + 1)) x ts ⊎ ⊥

    more_to_c : (n k : ℕ) (x : Fault) (ts : List T) → More_cross n k x ts → Few_cross (suc n) k x ts
    more_to_c n k x ts (inl (inl c)) =
        let here : k ≡ k + length {A = A} [] = omega arith in
        ([], omega arith, record { front = []; back = ts; is = refl; first = refl; second = subst (λ i. C i x ts) here c })
    more_to_c n k x ts (inl (inr c)) =
        let a = c.0 in
        let j = c.1 in
        let before = j.second.0 in
        let l = j.second.1 in
        let i = j.second.2 in
        let there : (k + 1) + length before ≡ k + length (a ∷ before) = omega arith in (
          a ∷ before,
          omega (arith, l),
          record {
            front = j.front ++ i.front;
            back = i.back;
            is = j.is ∙ ap (λ z. j.front ++ z) i.is ∙ sym (append_assoc j.front i.front i.back);
            first = record { front = j.front; back = i.front; is = refl; first = j.first; second = i.first };
            second = subst (λ z. C z x i.back) there i.second;
          },
        )
    more_to_c n k x ts (inr c) = absurd c

    more_from_c : (n k : ℕ) (x : Fault) (ts : List T) → Few_cross (suc n) k x ts → More_cross n k x ts
    more_from_c n k x ts c = by c.0 c.1 c.2
      where
        by : (before : List A) → length before < suc n → Joined (each L k before) (C (k + length before) x) ts → More_cross n k x ts
        by [] l j =
            let here : k + length {A = A} [] ≡ k = omega arith in
            inl (inl (subst (λ z. C k x z) (sym (j.is ∙ ap (λ z. z ++ j.back) j.first)) (subst (λ i. C i x j.back) here j.second)))
        by (a ∷ before) l j =
            let there : k + length (a ∷ before) ≡ (k + 1) + length before = omega arith in
            let i = j.first in
            inl (inr (
              a,
              record {
                front = i.front;
                back = i.back ++ j.back;
                is = j.is ∙ ap (λ z. z ++ j.back) i.is ∙ append_assoc i.front i.back j.back;
                first = i.first;
                second = (before, omega (arith, l), record { front = i.back; back = j.back; is = refl; first = i.second; second = subst (λ z. C z x j.back) there j.second });
              },
            ))

    more_reads : (n k : ℕ) (ts : List T) → cond (begins kind (f ++ []) ts) (both_in kind (read k) (λ a. many_in n (k + 1)) ts >>= λ p. Ok (p.0.0 ∷ p.0.1, p.1)) (Ok ([], ts)) ≡ many_in (suc n) k ts
    more_reads n k ts =
        ap (λ g. cond (begins kind g ts) (both_in kind (read k) (λ a. many_in n (k + 1)) ts >>= λ p. Ok (p.0.0 ∷ p.0.1, p.1)) (Ok ([], ts))) (append-nil f)
        ∙ ap (λ r. cond (begins kind f ts) r (Ok ([], ts))) (by (read k ts))
      where
        inner : A → Read T (List A) → Read T (List A)
        inner a q = q >>= λ xs. Ok (a ∷ xs.0, xs.1)

        then' : A → (q : Read T (List A)) → Read T (A × List A)
        then' a q = q >>= λ b. Ok ((a, b.0), b.1)

        one_by : (a : A) (q : Read T (List A)) → (then' a q >>= λ p. Ok (p.0.0 ∷ p.0.1, p.1)) ≡ inner a q
        one_by a (Ok b) = refl
        one_by a (Err x) = refl

        by : (r : Read T A) → ((r >>= λ a. then' a.0 (many_in n (k + 1) a.1)) >>= λ p. Ok (p.0.0 ∷ p.0.1, p.1)) ≡ (r >>= λ a. inner a.0 (many_in n (k + 1) a.1))
        by (Ok a) = one_by a.0 (many_in n (k + 1) a.1)
        by (Err x) = refl

    stop_more : (ts : List T) → Stops kind (f ++ m) ts → Stops kind ((((f ++ m) ++ m) ++ []) ++ (f ++ [])) ts
    stop_more [] s = refl
    stop_more (t ∷ ts) s =
        let a : has (kind t) f ≡ false = stops_left kind f m (t ∷ ts) s in
        let b : has (kind t) m ≡ false = stops_right kind f m (t ∷ ts) s in
        has_none (kind t) (((f ++ m) ++ m) ++ []) (f ++ []) (has_none (kind t) ((f ++ m) ++ m) [] (has_none (kind t) (f ++ m) m (has_none (kind t) f m a b) b) refl) (has_none (kind t) f [] a refl)

    pub law_many : (n k : ℕ) → Law kind (Few L n k) (Few LB n k) (Few_cross n k) (many_in n k) f true (f ++ m)
    law_many zero k = law_same kind (none_to L k) (none_from L k) (none_to LB k) (none_from LB k) (none_to_c k) (none_from_c k) (λ ts. refl) (λ j h. cc) (λ ts s. by ts) (law_nothing kind [])
      where
        by : (ts : List T) → Stops kind [] ts
        by [] = refl
        by (t ∷ ts) = refl
    law_many (suc n) k = law_same kind (more_to L n k) (more_from L n k) (more_to LB n k) (more_from LB n k) (more_to_c n k) (more_from_c n k) (more_reads n k) (λ j. subst (λ z. has j z ≡ true → has j f ≡ true) (sym (append-nil (f ++ []) ∙ append-nil f)) (λ h. h)) stop_more
        (law_or kind (law_made kind (λ p. p.0 ∷ p.1) (law_then kind (law k) (λ a. law_many n (k + 1)) distinct)) (law_nothing kind []) refl (apart_none (f ++ [])))
      where
        apart_none : (g : List ℕ) → apart g [] ≡ true
        apart_none [] = refl
        apart_none (j ∷ g) = apart_none g

    -- as many as there are, with a turn for each token

    abbrev pub Any_cross : ℕ → Fault → List T → Type 0
    Any_cross k x ts = (before : List A) × Joined (each L k before) (C (k + length before) x) ts

    abbrev pub all_in : ℕ → List T → Read T (List A)
    all_in k ts = many_in (length ts) k ts

    each_long : (k : ℕ) (xs : List A) (ts : List T) → each L k xs ts → length xs ≤ length ts
    each_long k [] ts s = omega arith
    each_long k (x ∷ xs) ts s =
        let l = each_long (k + 1) xs s.back s.second in
        let e : length ts ≡ length s.front + length s.back = ap length s.is ∙ length-append s.front s.back in
        let one : 1 ≤ length s.front = front_long s.front ((law k).begun x s.front ((law k).grows x s.front s.first)) in
        omega (arith, l, e, one)
      where
        front_long : (front : List T) → Begins kind f false front → 1 ≤ length front
        front_long [] b = cc
        front_long (t ∷ front) b = omega arith

    all_grow : (k : ℕ) (xs : List A) (ts : List T) → each L k xs ts → each LB k xs ts
    all_grow k [] ts s = s
    all_grow k (x ∷ xs) ts s = record { front = s.front; back = s.back; is = s.is; first = (law k).grows x s.front s.first; second = all_grow (k + 1) xs s.back s.second }

    read_shorter : (k : ℕ) (ts : List T) (a : A) (rest : List T) → read k ts ≡ Ok (a, rest) → length rest < length ts
    read_shorter k ts a rest h =
        let t = (law k).sound ts a rest h in
        let e : length ts ≡ length t.front + length rest = ap length t.is ∙ length-append t.front rest in
        let one : 1 ≤ length t.front = front_long t.front ((law k).begun a t.front ((law k).grows a t.front t.spelled)) in
        omega (arith, e, one)
      where
        front_long : (front : List T) → Begins kind f false front → 1 ≤ length front
        front_long [] b = cc
        front_long (t ∷ front) b = omega arith

    -- more turns than enough change nothing
    enough : (n i k : ℕ) (ts : List T) → length ts ≤ n → length ts ≤ i → many_in n k ts ≡ many_in i k ts
    enough zero zero k ts a b = refl
    enough zero (suc i) k [] a b = refl
    enough zero (suc i) k (t ∷ ts) a b = absurd (omega (arith, a))
    enough (suc n) zero k [] a b = refl
    enough (suc n) zero k (t ∷ ts) a b = absurd (omega (arith, b))
    enough (suc n) (suc i) k ts a b =
        ap (λ r. cond (begins kind f ts) r (Ok ([], ts))) (by (λ us. enough n i (k + 1) us) (read k ts) refl)
      where
        then' : ℕ → A × List T → Read T (List A)
        then' j x = many_in j (k + 1) x.1 >>= λ xs. Ok (x.0 ∷ xs.0, xs.1)

        by : ((us : List T) → length us ≤ n → length us ≤ i → many_in n (k + 1) us ≡ many_in i (k + 1) us) → (r : Read T A) → read k ts ≡ r → (r >>= then' n) ≡ (r >>= then' i)
        by same (Ok x) is =
            let l = read_shorter k ts x.0 x.1 is in
            ap (λ q. q >>= λ xs. Ok (x.0 ∷ xs.0, xs.1)) (same x.1 (omega (arith, l, a)) (omega (arith, l, b)))
        by same (Err e) is = refl

    pub law_all : (k : ℕ) → Law kind (each L k) (each LB k) (Any_cross k) (all_in k) f true (f ++ m)
    law_all k = record {
      sound = λ ts xs rest h. let t = (law_many (length ts) k).sound ts xs rest h in record { front = t.front; is = t.is; spelled = t.spelled.1 };
      complete = λ xs front rest s stop.
          let l = each_long k xs front s in
          (law_many (length (front ++ rest)) k).complete xs front rest (omega (arith, l, length-append front rest), s) stop;
      grows = all_grow k;
      begun = λ xs front s. (law_many (length xs) k).begun xs front (omega arith, s);
      some = record { thing = []; behind = []; spelled = refl };
      fails = λ ts rest x h. told_in kind (Few LB (length ts) k) (each LB k) (Few_cross (length ts) k) (Any_cross k) (λ front l. record { thing = l.thing; behind = l.behind; spelled = l.spelled.1 }) (λ y front c. (c.0, c.2)) x ts rest ((law_many (length ts) k).fails ts rest x h);
      tells = λ front behind x c.
          let j = c.1 in
          let l = each_long k c.0 j.front j.first in
          let e : length front ≡ length j.front + length j.back = ap length j.is ∙ length-append j.front j.back in
          let one = cross_long (k + length c.0) x j.back j.second in
          let t = (law_many (length (front ++ behind)) k).tells front behind x (c.0, omega (arith, l, e, one, length-append front behind), j) in
          record { before = t.before; token = t.token; is = t.is; told = t.told };
      leads = λ front x c. let l = (law_many (suc (length c.0)) k).leads front x (c.0, omega arith, c.1) in record { thing = l.thing; behind = l.behind; spelled = l.spelled.1 };
      limits = λ front c. (law (k + length c.0)).limits c.1.back c.1.second;
      blind_ok = λ front rest us xs h alike.
          let n = length (front ++ rest) + length (front ++ us) in
          enough (length (front ++ us)) n k (front ++ us) (omega arith) (omega arith)
          ∙ (law_many n k).blind_ok front rest us xs (enough n (length (front ++ rest)) k (front ++ rest) (omega arith) (omega arith) ∙ h) alike;
      blind_err = λ front rest us x h alike.
          let n = length (front ++ rest) + length (front ++ us) in
          enough (length (front ++ us)) n k (front ++ us) (omega arith) (omega arith)
          ∙ (law_many n k).blind_err front rest us x (enough n (length (front ++ rest)) k (front ++ rest) (omega arith) (omega arith) ∙ h) alike;
    }
      where
        front_long : (front : List T) → Begins kind f false front → 1 ≤ length front
        front_long [] b = cc
        front_long (t ∷ front) b = omega arith

        cross_long : (i : ℕ) (x : Fault) (ts : List T) → C i x ts → 1 ≤ length ts
        cross_long i x ts c = front_long ts (crossing_begins kind (law i) ts x c)
