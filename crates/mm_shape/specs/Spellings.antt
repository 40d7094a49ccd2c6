-- Which kinds of tokens spell a part, wherever they stand: as the grammar says it, but for places.
use Rattle.std.specs.Prelude.{◌≡◌, ◌⊎◌, ◌<◌, ◌≤◌, ℕ, zero, suc, ◌-◌, List, [], ◌∷◌, length}
use Rattle.mm_lex.specs.Lexemes.{LexemeKind, Lexeme}
use Rattle.mm_forms.specs.Language.{Joined, each}
use Rattle.mm_forms.specs.Forms.{Nothing, Token, Preceded, Terminated, Numbered, Then, Or, Many, ManyNumbered, ManyBelow, Map, At, Below, Inner}
use Rattle.mm_grammar.specs.Codes.{kind_code}
use Rattle.mm_grammar.specs.Rules.{Sort, Value, Rule, number_of_kind}

-- one token of this kind, and the value that it has there
pub record Spelling_of {A : Type 0} (n : ℕ) (value : Lexeme → A) (a : A) (ks : List LexemeKind) : Type 0 where
  pub token : Lexeme
  pub is : ks ≡ token.kind ∷ []
  pub kind_is : kind_code token.kind ≡ n
  pub value_is : a ≡ value token

-- one token of this kind
pub record IsOne (n : ℕ) (ks : List LexemeKind) : Type 0 where
  pub kind : LexemeKind
  pub is : ks ≡ kind ∷ []
  pub kind_is : kind_code kind ≡ n

-- one token of this kind with this number
pub record IsNumbered (n k : ℕ) (ks : List LexemeKind) : Type 0 where
  pub kind : LexemeKind
  pub is : ks ≡ kind ∷ []
  pub kind_is : kind_code kind ≡ n
  pub number_is : k ≡ number_of_kind kind

-- the parts of each sort are spelled so
module _ (parts : (s : Sort) → Value s → List LexemeKind → Type 0) where
  -- these kinds of tokens spell it, where this number is wanted
  abbrev pub spelled_by : {A : Type 0} → Rule A → ℕ → A → List LexemeKind → Type 0
  spelled_by (Nothing b) k a ks = (a ≡ b) × (ks ≡ [])
  spelled_by (Token n value) k a ks = Spelling_of n value a ks
  spelled_by (Preceded n f) k a ks = Joined (IsOne n) (spelled_by f k a) ks
  spelled_by (Terminated f n) k a ks = Joined (spelled_by f k a) (IsOne n) ks
  spelled_by (Numbered n f) k a ks = Joined (IsNumbered n k) (spelled_by f 0 a) ks
  spelled_by (Then f number g) k a ks = Joined (spelled_by f k a.0) (spelled_by g (number a.0) a.1) ks
  spelled_by (Or f g) k a ks = spelled_by f k a ks ⊎ spelled_by g k a ks
  spelled_by (Many f) k a ks = each (λ i. spelled_by f 0) 0 a ks
  spelled_by (ManyNumbered f) k a ks = each (spelled_by f) 0 a ks
  spelled_by (ManyBelow most f) k a ks = (length a ≤ most - k) × each (spelled_by f) k a ks
  spelled_by (Map {A = B} make f) k a ks = (b : B) × (a ≡ make b) × spelled_by f k b ks
  spelled_by (At place f) k a ks = spelled_by f k a.1 ks
  spelled_by (Below most s) k a ks = (k < most) × parts s a ks
  spelled_by (Inner s) k a ks = parts s a ks

-- A part is one level over parts of its own sort and of others.
module _ {A : Type 0} (level : Rule A) (parts : (A → List LexemeKind → Type 0) → (s : Sort) → Value s → List LexemeKind → Type 0) where
  -- these kinds of tokens spell it, and it nests at most so many levels deep
  unfoldable pub spelled_within : ℕ → A → List LexemeKind → Type 0
  spelled_within zero a ks = ⊥
  spelled_within (suc n) a ks = spelled_by (parts (spelled_within n)) level 0 a ks
