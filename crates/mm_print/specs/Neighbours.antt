-- Which kinds of tokens may stand side by side in what a form spells: computed from the form.
use Rattle.std.specs.Prelude.{ℕ, Bool, true, cond, ◌&&◌, not, eqb, List, [], ◌∷◌, ◌++◌}
use Rattle.mm_forms.specs.Forms.{Form, Nothing, Token, Preceded, Terminated, Numbered, Then, Or, Many, ManyNumbered, ManyBelow, Map, At, Below, Inner, has, empty, firsts}

module _ {T : Type 0} (kind : T → ℕ) where
  -- whether no token of the kind p stands before one of the kind q
  abbrev pub apart_in : ℕ → ℕ → List T → Bool
  apart_in p q [] = true
  apart_in p q (t ∷ []) = true
  apart_in p q (t ∷ next ∷ ts) = not (eqb (kind t) p && eqb (kind next) q) && apart_in p q (next ∷ ts)

  module _ {S : Type 0} {V : S → Type 0} (start stop : S → List ℕ) where
    -- the kinds of tokens with which it may end
    abbrev pub lasts : {A : Type 0} → Form T S V A → List ℕ
    lasts (Nothing b) = []
    lasts (Token n value) = n ∷ []
    lasts (Preceded n f) = lasts f ++ cond (empty kind start f) (n ∷ []) []
    lasts (Terminated f n) = n ∷ []
    lasts (Numbered n f) = lasts f ++ cond (empty kind start f) (n ∷ []) []
    lasts (Then f number g) = lasts g ++ cond (empty kind start g) (lasts f) []
    lasts (Or f g) = lasts f ++ lasts g
    lasts (Many f) = lasts f
    lasts (ManyNumbered f) = lasts f
    lasts (ManyBelow most f) = lasts f
    lasts (Map make f) = lasts f
    lasts (At place f) = lasts f
    lasts (Below most s) = stop s
    lasts (Inner s) = stop s

    -- in none of its spellings stands a token of the kind p before one of the kind q, where that is so of its parts
    abbrev pub never : ℕ → ℕ → {A : Type 0} → Form T S V A → Bool
    never p q (Nothing b) = true
    never p q (Token n value) = true
    never p q (Preceded n f) = not (has p (n ∷ []) && has q (firsts kind start f)) && never p q f
    never p q (Terminated f n) = not (has p (lasts f) && has q (n ∷ [])) && never p q f
    never p q (Numbered n f) = not (has p (n ∷ []) && has q (firsts kind start f)) && never p q f
    never p q (Then f number g) = not (has p (lasts f) && has q (firsts kind start g)) && never p q f && never p q g
    never p q (Or f g) = never p q f && never p q g
    never p q (Many f) = not (has p (lasts f) && has q (firsts kind start f)) && never p q f
    never p q (ManyNumbered f) = not (has p (lasts f) && has q (firsts kind start f)) && never p q f
    never p q (ManyBelow most f) = not (has p (lasts f) && has q (firsts kind start f)) && never p q f
    never p q (Map make f) = never p q f
    never p q (At place f) = never p q f
    never p q (Below most s) = true
    never p q (Inner s) = true
