-- What spells a part with the fewest tokens, and is the same for twins: put together form by form.
use Rattle.std.proofs.Common.{◌≡◌, ◌⊎◌, inl, inr, ℕ, zero, suc, ◌+◌, ◌-◌, ◌≤◌, ◌<◌, ◌^◌, List, [], ◌∷◌, ◌++◌, length, Bool, true, false, Option, None, Some, refl, sym, ap, subst, ◌∙◌, arith}
use Rattle.std.proofs.lemmas.List.{length-append}
use Rattle.mm_names.specs.declared.word.Word.{Word}
use Rattle.mm_lex.specs.declared.punct.Punct.{Punct}
use Rattle.mm_lex.specs.Lexemes.{LexemeKind, Lexeme}
use Rattle.mm_lex.specs.Lexemes as kinds
use Rattle.mm_lex.specs.Pieces.{IsToken}
use Rattle.mm_forms.specs.Language.{Joined, each}
use Rattle.mm_forms.specs.Forms.{Nothing, Token, Preceded, Terminated, Numbered, Then, Or, Many, ManyNumbered, ManyBelow, Map, At, Below, Inner}
use Rattle.mm_grammar.specs.Codes.{kind_code}
use Rattle.mm_grammar.specs.Rules.{Sort, Value, Rule, text_of, text_of_kind, number_of, number_of_kind, text, local, label_number, number, bare, optional, closed, list, ◌⋅◌}
use Rattle.mm_shape.specs.Spellings.{Spelling_of, IsOne, IsNumbered, spelled_by}
use Rattle.mm_shape.specs.Shapes.{AllTokens}
use Rattle.mm_shape.proofs.Codes.{is_word, is_punct}
use Rattle.mm_shape.proofs.Twins.{Twin_of, pairs, twin, one_spelled, other_spelled}

-- the former tokens are the latter, or are fewer
abbrev pub Shorter : List LexemeKind → List LexemeKind → Type 0
Shorter ks others = (others ≡ ks) ⊎ (length ks < length others)

-- of these kinds of tokens and others the former spell it, and are fewer where they are not the latter
pub record Fewest (L : List LexemeKind → Type 0) (ks others : List LexemeKind) : Type 0 where
  pub tokens : AllTokens ks
  pub spelled : L ks
  pub few : Shorter ks others

-- where any tokens spell it, these do, and all others are more
abbrev pub Writes : (List LexemeKind → Type 0) → List LexemeKind → Type 0
Writes L ks = (others : List LexemeKind) → AllTokens others → L others → Fewest L ks others

all_front : (xs ys : List LexemeKind) → AllTokens (xs ++ ys) → AllTokens xs
all_front [] ys all = tt
all_front (x ∷ xs) ys all = (all.0, all_front xs ys all.1)

all_back : (xs ys : List LexemeKind) → AllTokens (xs ++ ys) → AllTokens ys
all_back [] ys all = all
all_back (x ∷ xs) ys all = all_back xs ys all.1

all_both : (xs ys : List LexemeKind) → AllTokens xs → AllTokens ys → AllTokens (xs ++ ys)
all_both [] ys a b = b
all_both (x ∷ xs) ys a b = (a.0, all_both xs ys a.1 b)

no_more : (xs us : List LexemeKind) → Shorter xs us → length xs ≤ length us
no_more xs us (inl same) = let l = ap length same in omega (arith, l)
no_more xs us (inr less) = omega (arith, less)

shorter : (xs ys us vs : List LexemeKind) → Shorter xs us → Shorter ys vs → Shorter (xs ++ ys) (us ++ vs)
shorter xs ys us vs (inl a) (inl b) = inl (λ i. a i ++ b i)
shorter xs ys us vs (inl a) (inr b) =
    let l = length-append xs ys in
    let m = length-append us vs in
    let n = ap length a in
    inr (omega (arith, l, m, n, b))
shorter xs ys us vs (inr a) b =
    let l = length-append xs ys in
    let m = length-append us vs in
    let n = no_more ys vs b in
    inr (omega (arith, l, m, n, a))

joined : (L K : List LexemeKind → Type 0) (xs ys : List LexemeKind) → Writes L xs → Writes K ys → Writes (Joined L K) (xs ++ ys)
joined L K xs ys a b others all s =
    let whole = subst AllTokens s.is all in
    let p = a s.front (all_front s.front s.back whole) s.first in
    let q = b s.back (all_back s.front s.back whole) s.second in
    record {
      tokens = all_both xs ys p.tokens q.tokens;
      spelled = record { front = xs; back = ys; is = refl; first = p.spelled; second = q.spelled };
      few = subst (Shorter (xs ++ ys)) (sym s.is) (shorter xs ys s.front s.back p.few q.few);
    }

-- nothing is written with the fewest tokens
pub none_shorter : (others : List LexemeKind) → Shorter [] others
none_shorter [] = inl refl
none_shorter (x ∷ xs) = inr (omega arith)

-- the one token there can be
one_token : (L : List LexemeKind → Type 0) (x y : LexemeKind) (others : List LexemeKind) → others ≡ y ∷ [] → AllTokens others → y ≡ x → L (x ∷ []) → Fewest L (x ∷ []) others
one_token L x y others is all same s =
    let one : others ≡ x ∷ [] = is ∙ ap (λ z. z ∷ []) same in
    record { tokens = subst AllTokens one all; spelled = s; few = inl one }

token_fine : (y : LexemeKind) (others : List LexemeKind) → others ≡ y ∷ [] → AllTokens others → IsToken y
token_fine y others is all = (subst AllTokens is all).0

mark : (x : LexemeKind) → ((y : LexemeKind) → IsToken y → kind_code y ≡ kind_code x → y ≡ x) → Writes (IsOne (kind_code x)) (x ∷ [])
mark x told others all s = one_token (IsOne (kind_code x)) x s.kind others s.is all (told s.kind (token_fine s.kind others s.is all) s.kind_is) (record { kind = x; is = refl; kind_is = refl })

numbered_local : (k : ℕ) (y : LexemeKind) → IsToken y → kind_code y ≡ 3 → k ≡ number_of_kind y → y ≡ kinds.Local k
numbered_local k (kinds.Name b) fine is n = cc
numbered_local k (kinds.Word w) fine is n = absurd (omega (arith, is))
numbered_local k (kinds.Local m) fine is n = ap kinds.Local (sym n)
numbered_local k (kinds.Label m) fine is n = cc
numbered_local k (kinds.Number m) fine is n = cc
numbered_local k (kinds.Punct p) fine is n = absurd (omega (arith, is))
numbered_local k kinds.Other fine is n = absurd fine

numbered_label : (k : ℕ) (y : LexemeKind) → IsToken y → kind_code y ≡ 4 → k ≡ number_of_kind y → y ≡ kinds.Label k
numbered_label k (kinds.Name b) fine is n = cc
numbered_label k (kinds.Word w) fine is n = absurd (omega (arith, is))
numbered_label k (kinds.Local m) fine is n = cc
numbered_label k (kinds.Label m) fine is n = ap kinds.Label (sym n)
numbered_label k (kinds.Number m) fine is n = cc
numbered_label k (kinds.Punct p) fine is n = absurd (omega (arith, is))
numbered_label k kinds.Other fine is n = absurd fine

valued : (k : ℕ) (y : LexemeKind) → IsToken y → kind_code y ≡ 5 → k ≡ number_of_kind y → y ≡ kinds.Number k
valued k (kinds.Name b) fine is n = cc
valued k (kinds.Word w) fine is n = absurd (omega (arith, is))
valued k (kinds.Local m) fine is n = cc
valued k (kinds.Label m) fine is n = cc
valued k (kinds.Number m) fine is n = ap kinds.Number (sym n)
valued k (kinds.Punct p) fine is n = absurd (omega (arith, is))
valued k kinds.Other fine is n = absurd fine

named : (b : List ℕ) (y : LexemeKind) → IsToken y → kind_code y ≡ 2 → b ≡ text_of_kind y → y ≡ kinds.Name b
named b (kinds.Name c) fine is n = ap kinds.Name (sym n)
named b (kinds.Word w) fine is n = absurd (omega (arith, is))
named b (kinds.Local m) fine is n = cc
named b (kinds.Label m) fine is n = cc
named b (kinds.Number m) fine is n = cc
named b (kinds.Punct p) fine is n = absurd (omega (arith, is))
named b kinds.Other fine is n = absurd fine

abbrev token_of : LexemeKind → Lexeme
token_of k = record { kind = k; line = 1; column = 1 }

each_written : {A : Type 0} (L : ℕ → A → List LexemeKind → Type 0) (T : ℕ → A → List LexemeKind) (V : ℕ → List A → List LexemeKind)
    → ((k : ℕ) → V k [] ≡ []) → ((k : ℕ) (x : A) (xs : List A) → V k (x ∷ xs) ≡ T k x ++ V (k + 1) xs)
    → ((k : ℕ) (a : A) → Writes (L k a) (T k a)) → (k : ℕ) (xs : List A) → Writes (each L k xs) (V k xs)
each_written L T V nil cons item k [] others all s =
    subst (λ ks. Fewest (λ os. os ≡ []) ks others) (sym (nil k)) (record { tokens = tt; spelled = refl; few = inl s })
each_written L T V nil cons item k (x ∷ xs) others all s =
    subst (λ ks. Fewest (Joined (L k x) (each L (k + 1) xs)) ks others) (sym (cons k x xs))
    (joined (L k x) (each L (k + 1) xs) (T k x) (V (k + 1) xs) (item k x) (each_written L T V nil cons item (k + 1) xs) others all s)

-- what twins are written by is the same
pairs_same : {A : Type 0} (L : ℕ → A → A → List LexemeKind → Type 0) (T : ℕ → A → List LexemeKind) (V : ℕ → List A → List LexemeKind)
    → ((k : ℕ) (x : A) (xs : List A) → V k (x ∷ xs) ≡ T k x ++ V (k + 1) xs)
    → ((k : ℕ) (x y : A) (ks : List LexemeKind) → L k x y ks → T k x ≡ T k y) → (k : ℕ) (xs ys : List A) (ks : List LexemeKind) → pairs L k xs ys ks → V k xs ≡ V k ys
pairs_same L T V cons item k [] [] ks t = refl
pairs_same L T V cons item k [] (y ∷ ys) ks t = absurd t
pairs_same L T V cons item k (x ∷ xs) [] ks t = absurd t
pairs_same L T V cons item k (x ∷ xs) (y ∷ ys) ks t =
    cons k x xs ∙ (λ i. item k x y t.front t.first i ++ pairs_same L T V cons item (k + 1) xs ys t.back t.second i) ∙ sym (cons k y ys)

-- how parts of each sort are spelled, and what their twins are
pub record Parts : Type 1 where
  pub spelled : (s : Sort) → Value s → List LexemeKind → Type 0
  pub twins : (s : Sort) → Value s → Value s → List LexemeKind → Type 0
  pub both : (s : Sort) (x y : Value s) (ks : List LexemeKind) → twins s x y ks → spelled s x ks × spelled s y ks

-- For each part of a sort that is spelled at all, these are the fewest tokens that spell it, and twins have the same.
pub record Sorted (M : Parts) (s : Sort) (T : Value s → List LexemeKind) : Type 0 where
  pub writes : (v : Value s) → Writes (M.spelled s v) (T v)
  pub same : (x y : Value s) (ks : List LexemeKind) → M.twins s x y ks → T x ≡ T y

-- The same for each value of a rule, where this number is wanted.
pub record Rules (M : Parts) {A : Type 0} (f : Rule A) (k : ℕ) (T : A → List LexemeKind) : Type 0 where
  pub writes : (a : A) → Writes (spelled_by M.spelled f k a) (T a)
  pub same : (x y : A) (ks : List LexemeKind) → twin M.twins f k x y ks → T x ≡ T y

pub lifted : {L K : List LexemeKind → Type 0} → ((ks : List LexemeKind) → L ks → K ks) → {ks others : List LexemeKind} → Fewest L ks others → Fewest K ks others
lifted to p = record { tokens = p.tokens; spelled = to _ p.spelled; few = p.few }

value_same : {A : Type 0} {n : ℕ} (value : Lexeme → A) (of : LexemeKind → A) → ((t : Lexeme) → value t ≡ of t.kind) → {x y : A} {ks : List LexemeKind} → Twin_of n value x y ks → x ≡ y
value_same value of is t = t.one_is ∙ is t.one ∙ ap of (sym t.same) ∙ sym (is t.other) ∙ sym t.other_is

module _ {M : Parts} where
  pub w_nothing : {A : Type 0} {b : A} {k : ℕ} {T : A → List LexemeKind} → T b ≡ [] → Rules M (Nothing b) k T
  w_nothing {b = b} {k} {T} is = record {
    writes = λ a others all s. let none : T a ≡ [] = ap T s.0 ∙ is in subst (λ ks. Fewest (spelled_by M.spelled (Nothing b) k a) ks others) (sym none) (record { tokens = tt; spelled = (s.0, refl); few = inl s.1 });
    same = λ x y ks t. ap T (t.0 ∙ sym t.1);
  }

  pub w_text : {k : ℕ} → Rules M text k (λ b. kinds.Name b ∷ [])
  w_text = record {
    writes = λ b others all s. one_token _ (kinds.Name b) s.token.kind others s.is all (named b s.token.kind (token_fine s.token.kind others s.is all) s.kind_is s.value_is)
        (record { token = token_of (kinds.Name b); is = refl; kind_is = refl; value_is = refl });
    same = λ x y ks t. ap (λ b. kinds.Name b ∷ []) (value_same text_of text_of_kind (λ u. refl) t);
  }

  pub w_local : {k : ℕ} → Rules M local k (λ n. kinds.Local n ∷ [])
  w_local = record {
    writes = λ n others all s. one_token _ (kinds.Local n) s.token.kind others s.is all (numbered_local n s.token.kind (token_fine s.token.kind others s.is all) s.kind_is s.value_is)
        (record { token = token_of (kinds.Local n); is = refl; kind_is = refl; value_is = refl });
    same = λ x y ks t. ap (λ n. kinds.Local n ∷ []) (value_same number_of number_of_kind (λ u. refl) t);
  }

  pub w_label : {k : ℕ} → Rules M label_number k (λ n. kinds.Label n ∷ [])
  w_label = record {
    writes = λ n others all s. one_token _ (kinds.Label n) s.token.kind others s.is all (numbered_label n s.token.kind (token_fine s.token.kind others s.is all) s.kind_is s.value_is)
        (record { token = token_of (kinds.Label n); is = refl; kind_is = refl; value_is = refl });
    same = λ x y ks t. ap (λ n. kinds.Label n ∷ []) (value_same number_of number_of_kind (λ u. refl) t);
  }

  pub w_number : {k : ℕ} → Rules M number k (λ n. kinds.Number n ∷ [])
  w_number = record {
    writes = λ n others all s. one_token _ (kinds.Number n) s.token.kind others s.is all (valued n s.token.kind (token_fine s.token.kind others s.is all) s.kind_is s.value_is)
        (record { token = token_of (kinds.Number n); is = refl; kind_is = refl; value_is = refl });
    same = λ x y ks t. ap (λ n. kinds.Number n ∷ []) (value_same number_of number_of_kind (λ u. refl) t);
  }

  -- a word or a punctuation, and then the rest
  pub w_word : {A : Type 0} {f : Rule A} {k : ℕ} {T : A → List LexemeKind} (w : Word) → Rules M f k T → Rules M (Preceded (kind_code (kinds.Word w)) f) k (λ a. kinds.Word w ∷ T a)
  w_word {T = T} w r = record {
    writes = λ a. joined _ _ (kinds.Word w ∷ []) (T a) (mark (kinds.Word w) (is_word w)) (r.writes a);
    same = λ x y ks t. ap (λ z. kinds.Word w ∷ z) (r.same x y t.back t.second);
  }

  pub w_punct : {A : Type 0} {f : Rule A} {k : ℕ} {T : A → List LexemeKind} (p : Punct) → Rules M f k T → Rules M (Preceded (kind_code (kinds.Punct p)) f) k (λ a. kinds.Punct p ∷ T a)
  w_punct {T = T} p r = record {
    writes = λ a. joined _ _ (kinds.Punct p ∷ []) (T a) (mark (kinds.Punct p) (is_punct p)) (r.writes a);
    same = λ x y ks t. ap (λ z. kinds.Punct p ∷ z) (r.same x y t.back t.second);
  }

  -- a part, and then a punctuation
  pub w_ends : {A : Type 0} {f : Rule A} {k : ℕ} {T : A → List LexemeKind} (p : Punct) → Rules M f k T → Rules M (Terminated f (kind_code (kinds.Punct p))) k (λ a. T a ++ kinds.Punct p ∷ [])
  w_ends {T = T} p r = record {
    writes = λ a. joined _ _ (T a) (kinds.Punct p ∷ []) (r.writes a) (mark (kinds.Punct p) (is_punct p));
    same = λ x y ks t. ap (λ z. z ++ kinds.Punct p ∷ []) (r.same x y t.front t.first);
  }

  -- a local or a label with the number that is wanted, and then the rest
  pub w_let : {A : Type 0} {f : Rule A} {k : ℕ} {T : A → List LexemeKind} → Rules M f 0 T → Rules M (Numbered 3 f) k (λ a. kinds.Local k ∷ T a)
  w_let {k = k} {T} r = record {
    writes = λ a. joined (IsNumbered 3 k) _ (kinds.Local k ∷ []) (T a)
        (λ others all s. one_token (IsNumbered 3 k) (kinds.Local k) s.kind others s.is all (numbered_local k s.kind (token_fine s.kind others s.is all) s.kind_is s.number_is) (record { kind = kinds.Local k; is = refl; kind_is = refl; number_is = refl }))
        (r.writes a);
    same = λ x y ks t. ap (λ z. kinds.Local k ∷ z) (r.same x y t.back t.second);
  }

  pub w_labelled : {A : Type 0} {f : Rule A} {k : ℕ} {T : A → List LexemeKind} → Rules M f 0 T → Rules M (Numbered 4 f) k (λ a. kinds.Label k ∷ T a)
  w_labelled {k = k} {T} r = record {
    writes = λ a. joined (IsNumbered 4 k) _ (kinds.Label k ∷ []) (T a)
        (λ others all s. one_token (IsNumbered 4 k) (kinds.Label k) s.kind others s.is all (numbered_label k s.kind (token_fine s.kind others s.is all) s.kind_is s.number_is) (record { kind = kinds.Label k; is = refl; kind_is = refl; number_is = refl }))
        (r.writes a);
    same = λ x y ks t. ap (λ z. kinds.Label k ∷ z) (r.same x y t.back t.second);
  }

  -- one part and then another, where the number is wanted that is made of the one
  pub w_then : {A B : Type 0} {f : Rule A} {count : A → ℕ} {g : Rule B} {k : ℕ} {T : A → List LexemeKind} {U : ℕ → B → List LexemeKind} → Rules M f k T → ((n : ℕ) → Rules M g n (U n)) → Rules M (Then f count g) k (λ p. T p.0 ++ U (count p.0) p.1)
  w_then {count = count} {T = T} {U} r q = record {
    writes = λ p. joined _ _ (T p.0) (U (count p.0) p.1) (r.writes p.0) ((q (count p.0)).writes p.1);
    same = λ x y ks t.
        let second = (q (count x.0)).same x.1 y.1 t.1.back t.1.second ∙ ap (λ n. U n y.1) t.0 in
        λ i. r.same x.0 y.0 t.1.front t.1.first i ++ second i;
  }

  pub w_both : {A B : Type 0} {f : Rule A} {g : Rule B} {k : ℕ} {T : A → List LexemeKind} {U : B → List LexemeKind} → Rules M f k T → Rules M g 0 U → Rules M (f ⋅ g) k (λ p. T p.0 ++ U p.1)
  w_both {T = T} {U} r q = record {
    writes = λ p. joined _ _ (T p.0) (U p.1) (r.writes p.0) (q.writes p.1);
    same = λ x y ks t. λ i. r.same x.0 y.0 t.1.front t.1.first i ++ q.same x.1 y.1 t.1.back t.1.second i;
  }

  pub w_or : {A : Type 0} {f g : Rule A} {k : ℕ} {T : A → List LexemeKind} → Rules M f k T → Rules M g k T → Rules M (Or f g) k T
  w_or r q = record {
    writes = λ a others all s. elim s [ inl s ↦ lifted (λ ks x. inl x) (r.writes a others all s) | inr s ↦ lifted (λ ks x. inr x) (q.writes a others all s) ];
    same = λ x y ks t. elim t [ inl t ↦ r.same x y ks t | inr t ↦ q.same x y ks t ];
  }

  -- one thing after the other, by what is written for none and for one more
  pub w_many : {A : Type 0} {f : Rule A} {k : ℕ} {T : A → List LexemeKind} {V : List A → List LexemeKind} → V [] ≡ [] → ((x : A) (xs : List A) → V (x ∷ xs) ≡ T x ++ V xs) → Rules M f 0 T → Rules M (Many f) k V
  w_many {T = T} {V} nil cons r = record {
    writes = λ a. each_written _ (λ i. T) (λ i. V) (λ i. nil) (λ i. cons) (λ i. r.writes) 0 a;
    same = λ x y ks t. pairs_same _ (λ i. T) (λ i. V) (λ i. cons) (λ i. r.same) 0 x y ks t;
  }

  pub w_many_numbered : {A : Type 0} {f : Rule A} {k : ℕ} {T : A → List LexemeKind} {V : List A → List LexemeKind} → V [] ≡ [] → ((x : A) (xs : List A) → V (x ∷ xs) ≡ T x ++ V xs) → ((i : ℕ) → Rules M f i T) → Rules M (ManyNumbered f) k V
  w_many_numbered {T = T} {V} nil cons r = record {
    writes = λ a. each_written _ (λ i. T) (λ i. V) (λ i. nil) (λ i. cons) (λ i. (r i).writes) 0 a;
    same = λ x y ks t. pairs_same _ (λ i. T) (λ i. V) (λ i. cons) (λ i. (r i).same) 0 x y ks t;
  }

  pub w_many_below : {A : Type 0} {most : ℕ} {f : Rule A} {k : ℕ} {T : ℕ → A → List LexemeKind} (V : ℕ → List A → List LexemeKind)
      → ((i : ℕ) → V i [] ≡ []) → ((i : ℕ) (x : A) (xs : List A) → V i (x ∷ xs) ≡ T i x ++ V (i + 1) xs) → ((i : ℕ) → Rules M f i (T i)) → Rules M (ManyBelow most f) k (V k)
  w_many_below {k = k} {T} V nil cons r = record {
    writes = λ a others all s. lifted (λ ks x. (s.0, x)) (each_written _ T V nil cons (λ i. (r i).writes) k a others all s.1);
    same = λ x y ks t. pairs_same _ T V cons (λ i. (r i).same) k x y ks t.2;
  }

  -- what is made of a part, by what is written for the part
  pub w_made : {A B : Type 0} {make : A → B} {f : Rule A} {k : ℕ} {T : B → List LexemeKind} {U : A → List LexemeKind} → ((a : A) → T (make a) ≡ U a) → Rules M f k U → Rules M (Map make f) k T
  w_made {make = make} {f} {k} {T} {U} same r = record {
    writes = λ b others all s.
        let is : T b ≡ U s.0 = ap T s.1 ∙ same s.0 in
        subst (λ ks. Fewest (spelled_by M.spelled (Map make f) k b) ks others) (sym is) (lifted (λ ks x. (s.0, s.1, x)) (r.writes s.0 others all s.2));
    same = λ x y ks t. ap T t.2 ∙ same t.0 ∙ r.same t.0 t.1 ks t.4 ∙ sym (same t.1) ∙ sym (ap T t.3);
  }

  pub w_map : {A B : Type 0} {make : A → B} {f : Rule A} {k : ℕ} {T : B → List LexemeKind} → Rules M f k (λ a. T (make a)) → Rules M (Map make f) k T
  w_map r = w_made (λ a. refl) r

  pub w_at : {A P : Type 0} {place : Lexeme → P} {f : Rule A} {k : ℕ} {T : A → List LexemeKind} → Rules M f k T → Rules M (At place f) k (λ p. T p.1)
  w_at r = record { writes = λ p. r.writes p.1; same = λ x y ks t. r.same x.1 y.1 ks t }

  -- a part of a sort
  pub w_inner : {s : Sort} {k : ℕ} {T : Value s → List LexemeKind} → Sorted M s T → Rules M (Inner s) k T
  w_inner r = record { writes = r.writes; same = r.same }

  pub w_below : {most : ℕ} {s : Sort} {k : ℕ} {T : Value s → List LexemeKind} → Sorted M s T → Rules M (Below most s) k T
  w_below r = record {
    writes = λ v others all s'. lifted (λ ks x. (s'.0, x)) (r.writes v others all s'.1);
    same = λ x y ks t. r.same x y ks t.1;
  }

  -- the same, where it is written otherwise for what is spelled at all
  pub w_as : {A : Type 0} {f : Rule A} {k : ℕ} {T U : A → List LexemeKind} → ((a : A) (ks : List LexemeKind) → spelled_by M.spelled f k a ks → T a ≡ U a) → Rules M f k U → Rules M f k T
  w_as {f = f} {k} same r = record {
    writes = λ a others all s. subst (λ ks. Fewest (spelled_by M.spelled f k a) ks others) (sym (same a others s)) (r.writes a others all s);
    same = λ x y ks t.
        same x ks (one_spelled M.twins M.spelled (λ s u v js p. (M.both s u v js p).0) f k x y ks t) ∙ r.same x y ks t
        ∙ sym (same y ks (other_spelled M.twins M.spelled (λ s u v js p. (M.both s u v js p).1) f k x y ks t));
  }

  -- a word alone, for this value
  pub w_bare : {A : Type 0} {a : A} {k : ℕ} {T : A → List LexemeKind} (w : Word) → T a ≡ kinds.Word w ∷ [] → Rules M (bare w a) k T
  w_bare {T = T} w is = w_as {U = λ b. kinds.Word w ∷ []} (λ b ks s. ap T s.second.0 ∙ is) (w_word w (w_nothing refl))

  pub w_optional : {A : Type 0} {f : Rule A} {k : ℕ} {T : Option A → List LexemeKind} → T None ≡ [] → Rules M f k (λ a. T (Some a)) → Rules M (optional f) k T
  w_optional none r = w_or (w_map r) (w_nothing none)

  pub w_closed : {A : Type 0} {f : Rule (List A)} {k : ℕ} {T : List A → List LexemeKind} (p : Punct) → T [] ≡ [] → Rules M f k T → Rules M (closed p f) k (λ xs. T xs ++ kinds.Punct p ∷ [])
  w_closed {T = T} p none r = w_or
      (w_as {U = λ xs. kinds.Punct p ∷ []} (λ xs ks s. ap (λ z. T z ++ kinds.Punct p ∷ []) s.second.0 ∙ ap (λ ys. ys ++ kinds.Punct p ∷ []) none) (w_punct p (w_nothing refl)))
      (w_ends p r)

  pub w_list : {A : Type 0} {first : Rule A} {others : Rule (List A)} {k : ℕ} {T : A → List LexemeKind} {U V : List A → List LexemeKind} → ((x : A) (xs : List A) → V (x ∷ xs) ≡ T x ++ U xs) → Rules M first k T → Rules M others 0 U → Rules M (list first others) k V
  w_list {T = T} {U} {V} cons r q = w_made {U = λ p. T p.0 ++ U p.1} (λ p. cons p.0 p.1) (w_both r q)
