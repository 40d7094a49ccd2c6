-- Tokens whose kinds spell a part spell a twin of it.
use Rattle.std.proofs.Common.{◌≡◌, ◌⊎◌, inl, inr, ℕ, zero, suc, ◌+◌, ◌-◌, ◌≤◌, List, [], ◌∷◌, ◌++◌, length, map, Bool, true, false, refl, sym, ap, subst, ◌∙◌}
use Rattle.mm_lex.specs.Lexemes.{LexemeKind, Lexeme}
use Rattle.mm_forms.specs.Language.{Joined, each}
use Rattle.mm_forms.specs.Forms.{Nothing, Token, Preceded, Terminated, Numbered, Then, Or, Many, ManyNumbered, ManyBelow, Map, At, Below, Inner, Token_of, spells, stands_at}
use Rattle.mm_grammar.specs.Codes.{kind_code, code}
use Rattle.mm_grammar.specs.Rules.{Sort, Value, Rule, number_of, number_of_kind}
use Rattle.mm_shape.specs.Spellings.{IsOne, IsNumbered, spelled_by}
use Rattle.mm_shape.specs.Shapes.{kinds_of}
use Rattle.mm_shape.proofs.Twins.{Twin_of, pairs, pairs_length, twin, steady}
use Rattle.mm_shape.proofs.Full.{full}

head_same : (x y : LexemeKind) (xs ys : List LexemeKind) → x ∷ xs ≡ y ∷ ys → x ≡ y
head_same x y xs ys is = cc

tail_same : (x y : LexemeKind) (xs ys : List LexemeKind) → x ∷ xs ≡ y ∷ ys → xs ≡ ys
tail_same x y xs ys is = cc

-- tokens whose kinds are in two parts
record Cut (xs ys : List LexemeKind) (ts : List Lexeme) : Type 0 where
  pub front : List Lexeme
  pub back : List Lexeme
  pub is : ts ≡ front ++ back
  pub front_is : kinds_of front ≡ xs
  pub back_is : kinds_of back ≡ ys

cut : (xs ys : List LexemeKind) (ts : List Lexeme) → kinds_of ts ≡ xs ++ ys → Cut xs ys ts
cut [] ys ts is = record { front = []; back = ts; is = refl; front_is = refl; back_is = is }
cut (x ∷ xs) ys [] is = cc
cut (x ∷ xs) ys (t ∷ ts) is =
    let rest = cut xs ys ts (tail_same t.kind x (kinds_of ts) (xs ++ ys) is) in
    let one : t.kind ≡ x = head_same t.kind x (kinds_of ts) (xs ++ ys) is in
    record { front = t ∷ rest.front; back = rest.back; is = ap (λ z. t ∷ z) rest.is; front_is = (λ i. one i ∷ rest.front_is i); back_is = rest.back_is }

no_token : (ts : List Lexeme) → kinds_of ts ≡ [] → ts ≡ []
no_token [] is = refl
no_token (t ∷ ts) is = cc

-- a token that has this kind
record Single (x : LexemeKind) (ts : List Lexeme) : Type 0 where
  pub token : Lexeme
  pub is : ts ≡ token ∷ []
  pub kind_is : token.kind ≡ x

single : (x : LexemeKind) (ts : List Lexeme) → kinds_of ts ≡ x ∷ [] → Single x ts
single x [] is = cc
single x (t ∷ ts) is = record {
  token = t;
  is = ap (λ z. t ∷ z) (no_token ts (tail_same t.kind x (kinds_of ts) [] is));
  kind_is = head_same t.kind x (kinds_of ts) [] is;
}

one : (n : ℕ) (ks : List LexemeKind) → IsOne n ks → (ts : List Lexeme) → kinds_of ts ≡ ks → Token_of code n (λ t. tt {0}) (tt {0}) ts
one n ks s ts is =
    let o = single s.kind ts (is ∙ s.is) in
    record { token = o.token; is = o.is; kind_is = ap kind_code o.kind_is ∙ s.kind_is; value_is = refl }

numbered : (n k : ℕ) (ks : List LexemeKind) → IsNumbered n k ks → (ts : List Lexeme) → kinds_of ts ≡ ks → Token_of code n number_of k ts
numbered n k ks s ts is =
    let o = single s.kind ts (is ∙ s.is) in
    record { token = o.token; is = o.is; kind_is = ap kind_code o.kind_is ∙ s.kind_is; value_is = s.number_is ∙ ap number_of_kind (sym o.kind_is) }

-- a place at which the first token stands
some_place : {P : Type 0} (place : Lexeme → P) (ts : List Lexeme) → (ts ≡ [] → ⊥) → (p : P) × stands_at code place p ts
some_place place [] some = absurd (some refl)
some_place place (t ∷ ts) some = (place t, refl)

each_placed : {A : Type 0} (M : ℕ → A → List LexemeKind → Type 0) (L : ℕ → A → List Lexeme → Type 0) (R : ℕ → A → A → List LexemeKind → Type 0)
    → ((k : ℕ) (a : A) (ks : List LexemeKind) → M k a ks → (ts : List Lexeme) → kinds_of ts ≡ ks → (b : A) × L k b ts × R k a b ks)
    → (k : ℕ) (xs : List A) (ks : List LexemeKind) → each M k xs ks → (ts : List Lexeme) → kinds_of ts ≡ ks → (ys : List A) × each L k ys ts × pairs R k xs ys ks
each_placed M L R item k [] ks s ts is = ([], no_token ts (is ∙ s), s)
each_placed M L R item k (x ∷ xs) ks s ts is =
    let c = cut s.front s.back ts (is ∙ s.is) in
    let p = item k x s.front s.first c.front c.front_is in
    let q = each_placed M L R item (k + 1) xs s.back s.second c.back c.back_is in (
      p.0 ∷ q.0,
      record { front = c.front; back = c.back; is = c.is; first = p.1; second = q.1 },
      record { front = s.front; back = s.back; is = s.is; first = p.2; second = q.2 },
    )

module _ (M : (s : Sort) → Value s → List LexemeKind → Type 0) (L : (s : Sort) → Value s → List Lexeme → Type 0) (N : (s : Sort) → Value s → Value s → List LexemeKind → Type 0) (some : (s : Sort) (v : Value s) → M s v [] → ⊥)
    (part : (s : Sort) (v : Value s) (ks : List LexemeKind) → M s v ks → (ts : List Lexeme) → kinds_of ts ≡ ks → (w : Value s) × L s w ts × N s v w ks) where
  pub placed : {A : Type 0} (f : Rule A) → steady N f → (k : ℕ) (a : A) (ks : List LexemeKind) → spelled_by M f k a ks → (ts : List Lexeme) → kinds_of ts ≡ ks
      → (b : A) × spells code number_of true L f k b ts × twin N f k a b ks
  placed (Nothing b) h k a ks s ts is = (b, (refl, no_token ts (is ∙ s.1)), (s.0, refl, s.1))
  placed (Token n value) h k a ks s ts is =
      let o = single s.token.kind ts (is ∙ s.is) in (
        value o.token,
        record { token = o.token; is = o.is; kind_is = ap kind_code o.kind_is ∙ s.kind_is; value_is = refl },
        record { one = s.token; other = o.token; is = s.is; same = o.kind_is; kind_is = s.kind_is; one_is = s.value_is; other_is = refl },
      )
  placed (Preceded n f) h k a ks s ts is =
      let c = cut s.front s.back ts (is ∙ s.is) in
      let p = placed f h k a s.back s.second c.back c.back_is in (
        p.0,
        record { front = c.front; back = c.back; is = c.is; first = one n s.front s.first c.front c.front_is; second = p.1 },
        record { front = s.front; back = s.back; is = s.is; first = s.first; second = p.2 },
      )
  placed (Terminated f n) h k a ks s ts is =
      let c = cut s.front s.back ts (is ∙ s.is) in
      let p = placed f h k a s.front s.first c.front c.front_is in (
        p.0,
        record { front = c.front; back = c.back; is = c.is; first = p.1; second = one n s.back s.second c.back c.back_is },
        record { front = s.front; back = s.back; is = s.is; first = p.2; second = s.second },
      )
  placed (Numbered n f) h k a ks s ts is =
      let c = cut s.front s.back ts (is ∙ s.is) in
      let p = placed f h 0 a s.back s.second c.back c.back_is in (
        p.0,
        record { front = c.front; back = c.back; is = c.is; first = numbered n k s.front s.first c.front c.front_is; second = p.1 },
        record { front = s.front; back = s.back; is = s.is; first = s.first; second = p.2 },
      )
  placed (Then f number g) h k a ks s ts is =
      let c = cut s.front s.back ts (is ∙ s.is) in
      let p = placed f h.1 k a.0 s.front s.first c.front c.front_is in
      let q = placed g h.2 (number a.0) a.1 s.back s.second c.back c.back_is in
      let same = h.0 a.0 p.0 k s.front p.2 in
      let second = subst (λ n. spells code number_of true L g n q.0 c.back) same q.1 in (
        (p.0, q.0),
        record { front = c.front; back = c.back; is = c.is; first = p.1; second = second },
        (same, record { front = s.front; back = s.back; is = s.is; first = p.2; second = q.2 }),
      )
  placed (Or f g) h k a ks (inl s) ts is = let p = placed f h.0 k a ks s ts is in (p.0, inl p.1, inl p.2)
  placed (Or f g) h k a ks (inr s) ts is = let p = placed g h.1 k a ks s ts is in (p.0, inr p.1, inr p.2)
  placed (Many f) h k a ks s ts is = each_placed _ _ (λ i. twin N f 0) (λ i. placed f h 0) 0 a ks s ts is
  placed (ManyNumbered f) h k a ks s ts is = each_placed _ _ (twin N f) (placed f h) 0 a ks s ts is
  placed (ManyBelow most f) h k a ks s ts is =
      let p = each_placed _ _ (twin N f) (placed f h) k a ks s.1 ts is in
      let few = subst (λ n. n ≤ most - k) (pairs_length (twin N f) k a p.0 ks p.2) s.0 in
      (p.0, (few, p.1), (s.0, few, p.2))
  placed (Map make f) h k a ks s ts is = let p = placed f h k s.0 ks s.2 ts is in (make p.0, (p.0, refl, p.1), (s.0, p.0, s.1, refl, p.2))
  placed (At place f) h k a ks s ts is =
      let p = placed f h.1 k a.1 ks s ts is in
      let at = some_place place ts (λ none. full M some f h.0 k a.1 ks (sym is ∙ ap kinds_of none) s) in
      ((at.0, p.0), (p.1, at.1), p.2)
  placed (Below most s') h k a ks s ts is = let p = part s' a ks s.1 ts is in (p.0, (λ e. s.0, p.1), (s.0, p.2))
  placed (Inner s') h k a ks s ts is = part s' a ks s ts is
