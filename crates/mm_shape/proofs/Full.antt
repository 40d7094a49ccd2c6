-- A part that is not empty is spelled by a token at least.
use Rattle.std.proofs.Common.{◌≡◌, ◌⊎◌, inl, inr, ℕ, List, [], ◌∷◌, ◌++◌, Bool, true, false, ◌&&◌, ◌||◌, refl, sym, ap, subst, ◌∙◌}
use Rattle.mm_lex.specs.Lexemes.{LexemeKind}
use Rattle.mm_forms.specs.Language.{Joined}
use Rattle.mm_forms.specs.Forms.{Nothing, Token, Preceded, Terminated, Numbered, Then, Or, Many, ManyNumbered, ManyBelow, Map, At, Below, Inner, empty}
use Rattle.mm_grammar.specs.Codes.{code}
use Rattle.mm_grammar.specs.Rules.{Sort, Value, Rule}
use Rattle.mm_grammar.specs.Reading.{start}
use Rattle.mm_shape.specs.Spellings.{spelled_by}

no_tokens : {A : Type 0} (xs ys : List A) → [] ≡ xs ++ ys → (xs ≡ []) × (ys ≡ [])
no_tokens [] ys is = (refl, sym is)
no_tokens (x ∷ xs) ys is = cc

some_token : {A : Type 0} (x : A) (xs : List A) → xs ≡ [] → xs ≡ x ∷ [] → ⊥
some_token x xs none is = cc

neither : (a b : Bool) → (a || b) ≡ false → (a ≡ false) × (b ≡ false)
neither true b h = cc
neither false b h = (refl, h)

one_is : {A : Type 0} (a b : Bool) → (a && b) ≡ false → (a ≡ false → A) → (b ≡ false → A) → A
one_is true b h x y = y h
one_is false b h x y = x refl

module _ (M : (s : Sort) → Value s → List LexemeKind → Type 0) (some : (s : Sort) (v : Value s) → M s v [] → ⊥) where
  pub full : {A : Type 0} (f : Rule A) → empty code start f ≡ false → (k : ℕ) (a : A) (ks : List LexemeKind) → ks ≡ [] → spelled_by M f k a ks → ⊥
  full (Nothing b) e k a ks none s = cc
  full (Token n value) e k a ks none s = some_token s.token.kind ks none s.is
  full (Preceded n f) e k a ks none s = some_token s.first.kind s.front (no_tokens s.front s.back (sym none ∙ s.is)).0 s.first.is
  full (Terminated f n) e k a ks none s = some_token s.second.kind s.back (no_tokens s.front s.back (sym none ∙ s.is)).1 s.second.is
  full (Numbered n f) e k a ks none s = some_token s.first.kind s.front (no_tokens s.front s.back (sym none ∙ s.is)).0 s.first.is
  full (Then f number g) e k a ks none s =
      let parts = no_tokens s.front s.back (sym none ∙ s.is) in
      one_is (empty code start f) (empty code start g) e (λ h. full f h k a.0 s.front parts.0 s.first) (λ h. full g h (number a.0) a.1 s.back parts.1 s.second)
  full (Or f g) e k a ks none (inl s) = full f (neither (empty code start f) (empty code start g) e).0 k a ks none s
  full (Or f g) e k a ks none (inr s) = full g (neither (empty code start f) (empty code start g) e).1 k a ks none s
  full (Many f) e k a ks none s = cc
  full (ManyNumbered f) e k a ks none s = cc
  full (ManyBelow most f) e k a ks none s = cc
  full (Map make f) e k a ks none s = full f e k s.0 ks none s.2
  full (At place f) e k a ks none s = full f e k a.1 ks none s
  full (Below most s') e k a ks none s = some s' a (subst (M s' a) none s.1)
  full (Inner s') e k a ks none s = some s' a (subst (M s' a) none s)
