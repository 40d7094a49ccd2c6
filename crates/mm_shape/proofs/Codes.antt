-- The number of a kind of token that is a word or a punctuation tells it.
use Rattle.std.proofs.Common.{◌≡◌, ℕ, zero, suc, ◌+◌, ◌*◌, List, [], ◌∷◌, refl, sym, ap, ◌∙◌, arith}
use Rattle.mm_names.specs.declared.word.Word as word_type
use Rattle.mm_names.specs.declared.word.Word.TheVariants as words
use Rattle.mm_lex.specs.declared.punct.Punct as punct_type
use Rattle.mm_lex.specs.declared.punct.Punct.TheVariants as puncts
use Rattle.mm_lex.specs.Lexemes.{LexemeKind, Name, Word, Local, Label, Number, Punct, Other}
use Rattle.mm_lex.specs.Pieces.{IsToken}
use Rattle.mm_grammar.specs.Codes.{word_code, punct_code, kind_code}

at : {A : Type 0} → A → List A → ℕ → A
at default [] n = default
at default (x ∷ xs) zero = x
at default (x ∷ xs) (suc n) = at default xs n

word_at : ℕ → word_type.Word
word_at =
    at words.Crate
    (words.Crate ∷ words.Mod ∷ words.Pub ∷ words.Inline ∷ words.Fn ∷ words.Closure ∷ words.Struct ∷ words.Enum ∷ words.Trait ∷ words.Impl ∷ words.For ∷ words.Where ∷ words.Static ∷ words.Const ∷
    words.Dyn ∷ words.Let ∷ words.Print ∷ words.Return ∷ words.Goto ∷ words.Switch ∷ words.Else ∷ words.Call ∷ words.Drop ∷ words.Unreachable ∷ words.Copy ∷ words.Move ∷ words.True ∷ words.False ∷
    words.New ∷ words.Box ∷ words.Tuple ∷ words.As ∷ words.Variant ∷ words.Not ∷ words.Add ∷ words.Sub ∷ words.Mul ∷ words.Div ∷ words.Rem ∷ words.Eq ∷ words.Lt ∷ words.Dyncast ∷ words.BoxType ∷
    words.DropTrait ∷ words.CallTrait ∷ words.SelfType ∷ words.U64 ∷ words.Bool ∷ words.FnPtr ∷ words.FnItem ∷ [])

word_back : (w : word_type.Word) → word_at (word_code w) ≡ w
unfolding word_at at
word_back words.Crate = refl
word_back _ = refl

punct_at : ℕ → punct_type.Punct
punct_at =
    at puncts.PathSep
    (puncts.PathSep ∷ puncts.Arrow ∷ puncts.FatArrow ∷ puncts.Open ∷ puncts.Close ∷ puncts.OpenBrace ∷ puncts.CloseBrace ∷ puncts.Less ∷ puncts.Greater ∷ puncts.OpenBracket ∷ puncts.CloseBracket ∷
    puncts.Comma ∷ puncts.Semicolon ∷ puncts.Colon ∷ puncts.Dot ∷ puncts.Star ∷ puncts.At ∷ puncts.Ampersand ∷ puncts.Equals ∷ [])

punct_back : (p : punct_type.Punct) → punct_at (punct_code p) ≡ p
unfolding punct_at at
punct_back puncts.PathSep = refl
punct_back _ = refl

pub is_word : (w : word_type.Word) (y : LexemeKind) → IsToken y → kind_code y ≡ kind_code (Word w) → y ≡ Word w
is_word w (Name b) fine is = absurd (omega (arith, is))
is_word w (Word v) fine is = let e : word_code v ≡ word_code w = omega (arith, is) in ap Word (sym (word_back v) ∙ ap word_at e ∙ word_back w)
is_word w (Local n) fine is = absurd (omega (arith, is))
is_word w (Label n) fine is = absurd (omega (arith, is))
is_word w (Number n) fine is = absurd (omega (arith, is))
is_word w (Punct p) fine is = absurd (omega (arith, is))
is_word w Other fine is = absurd fine

pub is_punct : (p : punct_type.Punct) (y : LexemeKind) → IsToken y → kind_code y ≡ kind_code (Punct p) → y ≡ Punct p
is_punct p (Name b) fine is = absurd (omega (arith, is))
is_punct p (Word v) fine is = absurd (omega (arith, is))
is_punct p (Local n) fine is = absurd (omega (arith, is))
is_punct p (Label n) fine is = absurd (omega (arith, is))
is_punct p (Number n) fine is = absurd (omega (arith, is))
is_punct p (Punct q) fine is = let e : punct_code q ≡ punct_code p = omega (arith, is) in ap Punct (sym (punct_back q) ∙ ap punct_at e ∙ punct_back p)
is_punct p Other fine is = absurd fine
