-- Readers, and what each of them reads.
use Rattle.std.proofs.Common.{◌≡◌, ℕ, zero, suc, ◌≤◌, List, [], ◌∷◌, ◌++◌, length, map, Bool, true, false, cond, eqb, Option, Some, None, refl, sym, ◌∙◌, ap, subst, append_assoc, arith, inl, inr, length-append}
use Rattle.std.specs.Prelude.{All, flat_map}
use Rattle.std.specs.List.{concat}
use Rattle.std.proofs.lemmas.Bool.{cond-true, cond-false, eqb-true, cases_Bool}
use Rattle.std.proofs.lemmas.Option.{cond_some}
use Rattle.std.proofs.lemmas.List.Concat.{flat_map-cons}
use Rattle.std.proofs.lemmas.List.Elements.{All-nil, All-cons, All-head, All-tail}
use Rattle.mm_symbols.specs.Reading.{Read, ◌>>=◌, starts, past, made_in, pair_in, if_in, each_in, until_end}

pub bind_some : {A B : Type 0} (o : Option A) (go : A → Option B) (b : B) → (o >>= go) ≡ Some b → (a : A) × (o ≡ Some a) × (go a ≡ Some b)
bind_some (Some a) go b h = (a, refl, h)
bind_some None go b h = cc

pub bind_at : {A B : Type 0} (o : Option A) (go : A → Option B) (a : A) (s : Option B) → o ≡ Some a → go a ≡ s → (o >>= go) ≡ s
bind_at o go a s is goes = ap (λ x. x >>= go) is ∙ goes

pub some_same : {A : Type 0} (a b : A) → Some a ≡ Some b → a ≡ b
some_same a b h = cc

eqb_same : (c : ℕ) → eqb c c ≡ true
eqb_same c = grind (arith, eqb-true)

pub past-sound : (c : ℕ) (bytes rest : List ℕ) → past c bytes ≡ Some rest → bytes ≡ c ∷ rest
past-sound c [] rest h = cc
past-sound c (d ∷ ds) rest h =
    let parts = cond_some (eqb d c) ds rest h in
    let first = eqb-true d c parts.0 in
    λ i. first i ∷ parts.1 i

pub past-complete : (c : ℕ) (rest : List ℕ) → past c (c ∷ rest) ≡ Some rest
past-complete c rest = cond-true (eqb c c) (Some rest) None (eqb_same c)

-- The reader reads texts: what is read has its text at the front, and it is Out; what is In is read from its text.
pub record Reads {A : Type 0} (Out In : A → Type 0) (text : A → List ℕ) (read : List ℕ → Read A) : Type 0 where
  pub sound : (bytes : List ℕ) (a : A) (rest : List ℕ) → read bytes ≡ Some (a, rest) → Out a × (bytes ≡ text a ++ rest)
  pub complete : (a : A) (rest : List ℕ) → In a → read (text a ++ rest) ≡ Some (a, rest)

-- the same texts, otherwise reported
pub reads_same : {A : Type 0} {Out In : A → Type 0} {text : A → List ℕ} {read : List ℕ → Read A} (other : A → List ℕ) → ((a : A) → other a ≡ text a) → Reads Out In text read → Reads Out In other read
reads_same {read = read} other are one = record {
  sound = λ bytes a rest h. let s = one.sound bytes a rest h in (s.0, s.1 ∙ ap (λ l. l ++ rest) (sym (are a)));
  complete = λ a rest is. ap (λ l. read (l ++ rest)) (are a) ∙ one.complete a rest is;
}

-- behind a letter
pub reads_behind : {A : Type 0} {Out In : A → Type 0} {text : A → List ℕ} {read : List ℕ → Read A} (c : ℕ) → Reads Out In text read → Reads Out In (λ a. c ∷ text a) (λ bytes. past c bytes >>= read)
reads_behind {text = text} {read = read} c one = record {
  sound = λ bytes a rest h.
      let b = bind_some (past c bytes) read (a, rest) h in
      let s = one.sound b.0 a rest b.2 in
      (s.0, past-sound c bytes b.0 b.1 ∙ ap (λ l. c ∷ l) s.1);
  complete = λ a rest is. bind_at (past c (c ∷ (text a ++ rest))) read (text a ++ rest) (Some (a, rest)) (past-complete c (text a ++ rest)) (one.complete a rest is);
}

-- the one and then the other
pub reads_pair : {A B : Type 0} {Out In : A → Type 0} {Out' In' : B → Type 0} {text : A → List ℕ} {text' : B → List ℕ} {read : List ℕ → Read A} {read' : List ℕ → Read B} → Reads Out In text read → Reads Out' In' text' read' → Reads (λ x. Out x.0 × Out' x.1) (λ x. In x.0 × In' x.1) (λ x. text x.0 ++ text' x.1) (pair_in read read')
reads_pair {A} {B} {Out} {In} {Out'} {In'} {text} {text'} {read} {read'} one other = record {
  sound = λ bytes z rest h.
      let b = bind_some (read bytes) (λ x. read' x.1 >>= λ y. Some ((x.0, y.0), y.1)) (z, rest) h in
      let x = b.0 in
      let d = bind_some (read' x.1) (λ y. Some ((x.0, y.0), y.1)) (z, rest) b.2 in
      let y = d.0 in
      let s = one.sound bytes x.0 x.1 b.1 in
      let t = other.sound x.1 y.0 y.1 d.1 in
      let Fits : (A × B) × List ℕ → Type 0 = λ q. (Out q.0.0 × Out' q.0.1) × (bytes ≡ (text q.0.0 ++ text' q.0.1) ++ q.1) in
      subst Fits (some_same ((x.0, y.0), y.1) (z, rest) d.2) ((s.0, t.0), s.1 ∙ ap (λ l. text x.0 ++ l) t.1 ∙ sym (append_assoc (text x.0) (text' y.0) y.1));
  complete = λ z rest is.
      bind_at (read ((text z.0 ++ text' z.1) ++ rest)) (λ x. read' x.1 >>= λ y. Some ((x.0, y.0), y.1)) (z.0, text' z.1 ++ rest) (Some (z, rest))
      (ap read (append_assoc (text z.0) (text' z.1) rest) ∙ one.complete z.0 (text' z.1 ++ rest) is.0)
      (bind_at (read' (text' z.1 ++ rest)) (λ y. Some ((z.0, y.0), y.1)) (z.1, rest) (Some (z, rest)) (other.complete z.1 rest is.1) refl);
}

-- what is read, where it passes a test
pub reads_tested : {A : Type 0} {Out In : A → Type 0} {text : A → List ℕ} {read : List ℕ → Read A} (Is : A → Type 0) (test : A → Bool) → ((a : A) → Out a → test a ≡ true → Is a) → ((a : A) → Is a → In a × (test a ≡ true)) → Reads Out In text read → Reads Is Is text (if_in test read)
reads_tested {A} {Out} {In} {text} {read} Is test holds passes one = record {
  sound = λ bytes a rest h.
      let b = bind_some (read bytes) (λ x. cond (test x.0) (Some x) None) (a, rest) h in
      let x = b.0 in
      let d = cond_some (test x.0) x (a, rest) b.2 in
      let s = one.sound bytes x.0 x.1 b.1 in
      let Fits : A × List ℕ → Type 0 = λ q. Is q.0 × (bytes ≡ text q.0 ++ q.1) in
      subst Fits d.1 (holds x.0 s.0 d.0, s.1);
  complete = λ a rest is.
      let p = passes a is in
      bind_at (read (text a ++ rest)) (λ x. cond (test x.0) (Some x) None) (a, rest) (Some (a, rest)) (one.complete a rest p.0) (cond-true (test a) (Some (a, rest)) None p.1);
}

-- what is made of what is read
pub reads_made : {A B : Type 0} {Out In : A → Type 0} {text : A → List ℕ} {read : List ℕ → Read A} (Out' In' : B → Type 0) (text' : B → List ℕ) (make : A → B) → ((a : A) → text' (make a) ≡ text a) → ((a : A) → Out a → Out' (make a)) → ((b : B) → In' b → (a : A) × In a × (make a ≡ b)) → Reads Out In text read → Reads Out' In' text' (made_in make read)
reads_made {A} {B} {Out} {In} {text} {read} Out' In' text' make are holds made one = record {
  sound = λ bytes z rest h.
      let b = bind_some (read bytes) (λ x. Some (make x.0, x.1)) (z, rest) h in
      let x = b.0 in
      let s = one.sound bytes x.0 x.1 b.1 in
      let Fits : B × List ℕ → Type 0 = λ q. Out' q.0 × (bytes ≡ text' q.0 ++ q.1) in
      subst Fits (some_same (make x.0, x.1) (z, rest) b.2) (holds x.0 s.0, s.1 ∙ ap (λ l. l ++ x.1) (sym (are x.0)));
  complete = λ z rest is.
      let m = made z is in
      subst (λ w. made_in make read (text' w ++ rest) ≡ Some (w, rest)) m.2
      (bind_at (read (text' (make m.0) ++ rest)) (λ x. Some (make x.0, x.1)) (m.0, rest) (Some (make m.0, rest)) (ap (λ l. read (l ++ rest)) (are m.0) ∙ one.complete m.0 rest m.1) refl);
}

-- ---- things up to an E

-- the text begins, and not with E
abbrev pub IsBegun : List ℕ → Type 0
IsBegun [] = ⊥
IsBegun (c ∷ cs) = eqb c 69 ≡ false

begun_starts : (text rest : List ℕ) → IsBegun text → starts 69 (text ++ rest) ≡ false
begun_starts [] rest b = absurd b
begun_starts (c ∷ cs) rest b = b

begun_some : (text rest : List ℕ) (n : ℕ) → IsBegun text → length (text ++ rest) ≤ suc n → length rest ≤ n
begun_some [] rest n b l = absurd b
begun_some (c ∷ cs) rest n b l = omega (arith, length-append cs rest)

begun_not_zero : (text rest : List ℕ) → IsBegun text → length (text ++ rest) ≤ 0 → ⊥
begun_not_zero [] rest b l = b
begun_not_zero (c ∷ cs) rest b l = omega arith

module _ {A : Type 0} (Out In : A → Type 0) (text : A → List ℕ) (read : List ℕ → Read A) (one : Reads Out In text read) where
  after : ℕ → A × List ℕ → Read (List A)
  after n x = each_in read n x.1 >>= λ xs. Some (x.0 ∷ xs.0, xs.1)

  each_sound : (n : ℕ) (bytes : List ℕ) (xs : List A) (rest : List ℕ) → each_in read n bytes ≡ Some (xs, rest) → All Out xs × (bytes ≡ flat_map text xs ++ rest)
  unfolding after
  each_sound zero bytes xs rest h =
      let Fits : List A × List ℕ → Type 0 = λ q. All Out q.0 × (bytes ≡ flat_map text q.0 ++ q.1) in
      subst Fits (some_same ([], bytes) (xs, rest) h) (All-nil Out, refl)
  each_sound (suc n) bytes xs rest h =
      let Fits : List A × List ℕ → Type 0 = λ q. All Out q.0 × (bytes ≡ flat_map text q.0 ++ q.1) in
      elim (cases_Bool (starts 69 bytes)) [
        | inl is ↦ subst Fits (some_same ([], bytes) (xs, rest) (sym (cond-true (starts 69 bytes) (Some ([], bytes)) (read bytes >>= after n) is) ∙ h)) (All-nil Out, refl)
        | inr isnt ↦ (
            let b = bind_some (read bytes) (after n) (xs, rest) (sym (cond-false (starts 69 bytes) (Some ([], bytes)) (read bytes >>= after n) isnt) ∙ h) in
            let x = b.0 in
            let d = bind_some (each_in read n x.1) (λ ys. Some (x.0 ∷ ys.0, ys.1)) (xs, rest) b.2 in
            let ys = d.0 in
            let s = one.sound bytes x.0 x.1 b.1 in
            let t = each_sound n x.1 ys.0 ys.1 d.1 in
            let whole : bytes ≡ flat_map text (x.0 ∷ ys.0) ++ ys.1 = s.1 ∙ ap (λ l. text x.0 ++ l) t.1 ∙ sym (append_assoc (text x.0) (flat_map text ys.0) ys.1) ∙ ap (λ l. l ++ ys.1) (sym (flat_map-cons text x.0 ys.0)) in
            subst Fits (some_same (x.0 ∷ ys.0, ys.1) (xs, rest) d.2) (All-cons Out x.0 ys.0 s.0 t.0, whole))
      ]

  module _ (begins : (a : A) → In a → IsBegun (text a)) where
    each_complete : (n : ℕ) (xs : List A) (rest : List ℕ) → All In xs → length (flat_map text xs) ≤ n → each_in read n (flat_map text xs ++ (69 ∷ rest)) ≡ Some (xs, 69 ∷ rest)
    unfolding after
    each_complete zero [] rest are enough = refl
    each_complete (suc n) [] rest are enough = refl
    each_complete zero (x ∷ xs) rest are enough =
        absurd (begun_not_zero (text x) (flat_map text xs) (begins x (All-head In x xs are)) (subst (λ l. length l ≤ 0) (flat_map-cons text x xs) enough))
    each_complete (suc n) (x ∷ xs) rest are enough =
        let first = begins x (All-head In x xs are) in
        let back = flat_map text xs ++ (69 ∷ rest) in
        let split : flat_map text (x ∷ xs) ++ (69 ∷ rest) ≡ text x ++ back = ap (λ l. l ++ (69 ∷ rest)) (flat_map-cons text x xs) ∙ append_assoc (text x) (flat_map text xs) (69 ∷ rest) in
        let few : length (flat_map text xs) ≤ n = begun_some (text x) (flat_map text xs) n first (subst (λ l. length l ≤ suc n) (flat_map-cons text x xs) enough) in
        ap (each_in read (suc n)) split
        ∙ cond-false (starts 69 (text x ++ back)) (Some ([], text x ++ back)) (read (text x ++ back) >>= after n) (begun_starts (text x) back first)
        ∙ bind_at (read (text x ++ back)) (after n) (x, back) (Some (x ∷ xs, 69 ∷ rest)) (one.complete x back (All-head In x xs are))
        (bind_at (each_in read n back) (λ ys. Some (x ∷ ys.0, ys.1)) (xs, 69 ∷ rest) (Some (x ∷ xs, 69 ∷ rest)) (each_complete n xs rest (All-tail In x xs are) few) refl)

    -- things, and the E behind them
    pub reads_until : Reads (All Out) (All In) (λ xs. flat_map text xs ++ 69 ∷ []) (until_end read)
    reads_until = record {
      sound = λ bytes xs rest h.
          let b = bind_some (each_in read (length bytes) bytes) (λ ys. past 69 ys.1 >>= λ r. Some (ys.0, r)) (xs, rest) h in
          let ys = b.0 in
          let d = bind_some (past 69 ys.1) (λ r. Some (ys.0, r)) (xs, rest) b.2 in
          let s = each_sound (length bytes) bytes ys.0 ys.1 b.1 in
          let Fits : List A × List ℕ → Type 0 = λ q. All Out q.0 × (bytes ≡ (flat_map text q.0 ++ 69 ∷ []) ++ q.1) in
          subst Fits (some_same (ys.0, d.0) (xs, rest) d.2) (s.0, s.1 ∙ ap (λ l. flat_map text ys.0 ++ l) (past-sound 69 ys.1 d.0 d.1) ∙ sym (append_assoc (flat_map text ys.0) (69 ∷ []) d.0));
      complete = λ xs rest are.
          let whole = (flat_map text xs ++ 69 ∷ []) ++ rest in
          let split : whole ≡ flat_map text xs ++ (69 ∷ rest) = append_assoc (flat_map text xs) (69 ∷ []) rest in
          let enough : length (flat_map text xs) ≤ length whole = omega (arith, length-append (flat_map text xs ++ 69 ∷ []) rest, length-append (flat_map text xs) (69 ∷ [])) in
          bind_at (each_in read (length whole) whole) (λ ys. past 69 ys.1 >>= λ r. Some (ys.0, r)) (xs, 69 ∷ rest) (Some (xs, rest)) (ap (each_in read (length whole)) split ∙ each_complete (length whole) xs rest are enough) refl;
    }

-- texts one after the other
pub concat-map : {A : Type 0} (text : A → List ℕ) (xs : List A) → concat (map text xs) ≡ flat_map text xs
concat-map text [] = refl
concat-map text (x ∷ xs) = ap (λ l. text x ++ l) (concat-map text xs) ∙ sym (flat_map-cons text x xs)

-- ---- what a letter tells

-- what is made of what is read behind a letter
pub behind_sound : {A B : Type 0} {Out In : A → Type 0} {text : A → List ℕ} {read : List ℕ → Read A} (Out' : B → Type 0) (text' : B → List ℕ) (make : A → B) (letter c : ℕ) → ((a : A) → text' (make a) ≡ letter ∷ text a) → ((a : A) → Out a → Out' (make a)) → Reads Out In text read
    → (bytes : List ℕ) (z : B) (rest : List ℕ) → eqb c letter ≡ true → made_in make read bytes ≡ Some (z, rest) → Out' z × (c ∷ bytes ≡ text' z ++ rest)
behind_sound {A} {B} {Out} {In} {text} {read} Out' text' make letter c are holds one bytes z rest is h =
    let b = bind_some (read bytes) (λ x. Some (make x.0, x.1)) (z, rest) h in
    let x = b.0 in
    let s = one.sound bytes x.0 x.1 b.1 in
    let Fits : B × List ℕ → Type 0 = λ q. Out' q.0 × (c ∷ bytes ≡ text' q.0 ++ q.1) in
    let whole : c ∷ bytes ≡ text' (make x.0) ++ x.1 = (λ i. eqb-true c letter is i ∷ s.1 i) ∙ ap (λ l. l ++ x.1) (sym (are x.0)) in
    subst Fits (some_same (make x.0, x.1) (z, rest) b.2) (holds x.0 s.0, whole)

pub behind_complete : {A B : Type 0} {Out In : A → Type 0} {text : A → List ℕ} {read : List ℕ → Read A} (make : A → B) → Reads Out In text read → (a : A) (rest : List ℕ) → In a → made_in make read (text a ++ rest) ≡ Some (make a, rest)
behind_complete {text = text} {read = read} make one a rest is = bind_at (read (text a ++ rest)) (λ x. Some (make x.0, x.1)) (a, rest) (Some (make a, rest)) (one.complete a rest is) refl

-- the one or the other, as a test tells
pub pick : {X : Type 0} (R : Type 0) (b : Bool) (x y r : X) → (b ≡ true → x ≡ r → R) → (b ≡ false → y ≡ r → R) → cond b x y ≡ r → R
pick R true x y r yes' no' h = yes' refl h
pick R false x y r yes' no' h = no' refl h
