-- What reading from the front answers: results, fronts that are spelled, and where a fault is told.
use Rattle.std.proofs.Common.{◌≡◌, ◌⊎◌, inl, inr, List, [], ◌∷◌, ◌++◌, Result, Ok, Err, refl, ◌∙◌, ap}
use Rattle.std.proofs.lemmas.List.{append_cancel_right}
use Rattle.mm_forms.specs.declared.fault.Fault.{Fault}
use Rattle.mm_forms.specs.declared.fault.Fault.TheVariants.{Unfit, TooMany, TooDeep}
use Rattle.mm_forms.specs.Forms.{◌>>=◌, Read}

pub bind_ok : {A B E : Type 0} (r : Result A E) (go : A → Result B E) (b : B) → (r >>= go) ≡ Ok b → (a : A) × (r ≡ Ok a) × (go a ≡ Ok b)
bind_ok (Ok a) go b h = (a, refl, h)
bind_ok (Err e) go b h = cc

pub bind_err : {A B E : Type 0} (r : Result A E) (go : A → Result B E) (e : E) → (r >>= go) ≡ Err e → (r ≡ Err e) ⊎ ((a : A) × (r ≡ Ok a) × (go a ≡ Err e))
bind_err (Ok a) go e h = inr (a, refl, h)
bind_err (Err f) go e h = inl cc

pub bind_at : {A B E : Type 0} (r : Result A E) (go : A → Result B E) (a : A) (s : Result B E) → r ≡ Ok a → go a ≡ s → (r >>= go) ≡ s
bind_at r go a s is then' = ap (λ x. x >>= go) is ∙ then'

pub bind_stops : {A B E : Type 0} (r : Result A E) (go : A → Result B E) (e : E) → r ≡ Err e → (r >>= go) ≡ Err e
bind_stops r go e is = ap (λ x. x >>= go) is

pub ok_same : {A E : Type 0} (a b : A) → ◌≡◌ {A = Result A E} (Ok a) (Ok b) → a ≡ b
ok_same a b h = cc

pub err_same : {A E : Type 0} (a b : E) → ◌≡◌ {A = Result A E} (Err a) (Err b) → a ≡ b
err_same a b h = cc

pub no_cons : {A : Type 0} (x : A) (xs : List A) → x ∷ xs ≡ [] → ⊥
no_cons x xs h = cc

pub nothing_before : {A : Type 0} (xs ys : List A) → xs ++ ys ≡ ys → xs ≡ []
nothing_before xs ys h = append_cancel_right xs [] ys h

-- the tokens are a spelling and then the rest
pub record Takes {T : Type 0} (L : List T → Type 0) (ts rest : List T) : Type 0 where
  pub front : List T
  pub is : ts ≡ front ++ rest
  pub spelled : L front

-- the tokens before the rest are the front of a spelling
pub record Stays {T A : Type 0} (B : A → List T → Type 0) (ts rest : List T) : Type 0 where
  pub front : List T
  pub is : ts ≡ front ++ rest
  pub thing : A
  pub behind : List T
  pub spelled : B thing (front ++ behind)

-- the first token of the rest goes past a limit
pub record Past {T : Type 0} (C : List T → Type 0) (ts rest : List T) : Type 0 where
  pub front : List T
  pub token : T
  pub behind : List T
  pub is : ts ≡ front ++ token ∷ behind
  pub rest_is : rest ≡ token ∷ behind
  pub crossed : C (front ++ token ∷ [])

abbrev pub Told : {T A : Type 0} → (A → List T → Type 0) → (Fault → List T → Type 0) → Fault → List T → List T → Type 0
Told B C Unfit ts rest = Stays B ts rest
Told B C TooMany ts rest = Past (C TooMany) ts rest
Told B C TooDeep ts rest = Past (C TooDeep) ts rest

-- what goes past a limit is told at its last token, whatever stands behind
pub record Tells {T A : Type 0} (read : List T → Read T A) (x : Fault) (front behind : List T) : Type 0 where
  pub before : List T
  pub token : T
  pub is : front ≡ before ++ token ∷ []
  pub told : read (front ++ behind) ≡ Err (x, token ∷ behind)

-- a front of a spelling
pub record Leads {T A : Type 0} (B : A → List T → Type 0) (front : List T) : Type 0 where
  pub thing : A
  pub behind : List T
  pub spelled : B thing (front ++ behind)

-- both begin with one token, or both are empty
abbrev pub Alike : {T : Type 0} → List T → List T → Type 0
Alike [] [] = Unit {0}
Alike [] (u ∷ us) = ⊥
Alike (t ∷ ts) [] = ⊥
Alike (t ∷ ts) (u ∷ us) = t ≡ u

pub alike_behind : {T : Type 0} (front ts us : List T) → Alike ts us → Alike (front ++ ts) (front ++ us)
alike_behind [] ts us a = a
alike_behind (t ∷ front) ts us a = refl

pub alike_same : {T : Type 0} (ts : List T) → Alike ts ts
alike_same [] = tt
alike_same (t ∷ ts) = refl
