-- The word that some bytes spell is one.
use Rattle.std.proofs.Common.{◌≡◌, ◌≢◌, ℕ, Bool, true, false, not, ◌&&◌, cond, List, [], ◌∷◌, Option, Some, None, IfSome, IfNone, refl, sym, ap, ◌∙◌, subst}
use Rattle.std.proofs.lemmas.Bool.{and_parts}
use Rattle.std.specs.List.{find, list_all}
use Rattle.std.specs.Char.{is_ascii_alphabetic, is_ascii_alphanumeric, encode_utf8}
use Rattle.std.specs.Str.{bytes_eq, encode_utf8_all}
use Rattle.std.proofs.lemmas.Slice.Eq.{bytes_eq-Decides}
use Rattle.std.proofs.lemmas.List.Elements.{All-contains}
use Rattle.std.proofs.lemmas.List.Sums.{AllPass-from_list_all}
use Rattle.std.proofs.lemmas.Option.{none-some}
use Rattle.mm_names.specs.declared.word.Word.{Word}
use Rattle.mm_names.specs.declared.word.Word.TheVariants as words
use Rattle.mm_names.specs.Words.{word_spelling}
use Rattle.mm_names.specs.Names.{is_local_like, is_label_like}
use Rattle.mm_names.specs.Runs.{all_words, word_in}

-- what is found passes, and passes what each of the list does
found : {X : Type 0} (test holds : X → Bool) (xs : List X) (x : X) → list_all holds xs ≡ true → find test xs ≡ Some x → (test x ≡ true) × (holds x ≡ true)
found test holds [] x all is = absurd (cc is)
found test holds (y ∷ ys) x all is = let parts = and_parts (holds y) (list_all holds ys) all in at parts.0 (found test holds ys x parts.1) (test y) refl is
  where
    at : holds y ≡ true → (find test ys ≡ Some x → (test x ≡ true) × (holds x ≡ true)) → (b : Bool) → test y ≡ b → cond b (Some y) (find test ys) ≡ Some x → (test x ≡ true) × (holds x ≡ true)
    at held again true passes here = let same : y ≡ x = cc here in (ap test (sym same) ∙ passes, ap holds (sym same) ∙ held)
    at held again false fails later = again later

-- each word is found by its spelling
pub word_in-word_spelling : (word : Word) → word_in (word_spelling word) ≡ Some word
unfolding word_in
word_in-word_spelling words.Crate = refl
word_in-word_spelling words.Mod = refl
word_in-word_spelling words.Pub = refl
word_in-word_spelling words.Inline = refl
word_in-word_spelling words.Fn = refl
word_in-word_spelling words.Closure = refl
word_in-word_spelling words.Struct = refl
word_in-word_spelling words.Enum = refl
word_in-word_spelling words.Trait = refl
word_in-word_spelling words.Impl = refl
word_in-word_spelling words.For = refl
word_in-word_spelling words.Where = refl
word_in-word_spelling words.Static = refl
word_in-word_spelling words.Const = refl
word_in-word_spelling words.Dyn = refl
word_in-word_spelling words.Let = refl
word_in-word_spelling words.Print = refl
word_in-word_spelling words.Return = refl
word_in-word_spelling words.Goto = refl
word_in-word_spelling words.Switch = refl
word_in-word_spelling words.Else = refl
word_in-word_spelling words.Call = refl
word_in-word_spelling words.Drop = refl
word_in-word_spelling words.Unreachable = refl
word_in-word_spelling words.Copy = refl
word_in-word_spelling words.Move = refl
word_in-word_spelling words.True = refl
word_in-word_spelling words.False = refl
word_in-word_spelling words.New = refl
word_in-word_spelling words.Box = refl
word_in-word_spelling words.Tuple = refl
word_in-word_spelling words.As = refl
word_in-word_spelling words.Variant = refl
word_in-word_spelling words.Not = refl
word_in-word_spelling words.Add = refl
word_in-word_spelling words.Sub = refl
word_in-word_spelling words.Mul = refl
word_in-word_spelling words.Div = refl
word_in-word_spelling words.Rem = refl
word_in-word_spelling words.Eq = refl
word_in-word_spelling words.Lt = refl
word_in-word_spelling words.Dyncast = refl
word_in-word_spelling words.BoxType = refl
word_in-word_spelling words.DropTrait = refl
word_in-word_spelling words.CallTrait = refl
word_in-word_spelling words.SelfType = refl
word_in-word_spelling words.U64 = refl
word_in-word_spelling words.Bool = refl
word_in-word_spelling words.FnPtr = refl
word_in-word_spelling words.FnItem = refl

-- what is found is spelled so
pub word_in_spells : (bytes : List ℕ) (word : Word) → word_in bytes ≡ Some word → word_spelling word ≡ bytes
unfolding word_in
word_in_spells bytes word h =
    (bytes_eq-Decides (word_spelling word) bytes).0 (found (λ w. bytes_eq (word_spelling w) bytes) (λ w. true) all_words word refl h).0

-- where no word spells the bytes, none is found, and the other way round
pub word_in-none : (bytes : List ℕ) → ((word : Word) → word_spelling word ≢ bytes) → word_in bytes ≡ None
word_in-none bytes none = no_word (word_in bytes) refl
  where
    no_word : (r : Option Word) → word_in bytes ≡ r → word_in bytes ≡ None
    no_word None is = is
    no_word (Some word) is = absurd (none word (word_in_spells bytes word is))

pub no_word_spells : (bytes : List ℕ) → word_in bytes ≡ None → (word : Word) → word_spelling word ≢ bytes
no_word_spells bytes none word spells = none-some word (sym none ∙ ap word_in (sym spells) ∙ word_in-word_spelling word)

-- there is one answer to which word the bytes spell
pub word_in_is : (bytes : List ℕ) (r : Option Word) → IfSome r (λ word. word_spelling word ≡ bytes) → IfNone r ((word : Word) → word_spelling word ≢ bytes) → r ≡ word_in bytes
word_in_is bytes (Some word) spells none = sym (subst (λ b. word_in b ≡ Some word) spells (word_in-word_spelling word))
word_in_is bytes None spells none = sym (word_in-none bytes none)

-- an ASCII letter, and then ASCII letters and digits
abbrev pub is_ascii_word : List ℕ → Bool
is_ascii_word [] = false
is_ascii_word (c ∷ cs) = is_ascii_alphabetic c && list_all is_ascii_alphanumeric cs

-- no local and no label, of ASCII letters and digits, which are their own bytes
abbrev is_plain : Word → Bool
is_plain word =
    let cs = word_spelling word in
    is_ascii_word cs && not (is_local_like cs) && not (is_label_like cs) && bytes_eq (encode_utf8_all cs) cs

plain_words : list_all is_plain all_words ≡ true
unfolding encode_utf8
plain_words = refl

-- what the spelling of a word is like
pub record IsPlain (cs : List ℕ) : Type 0 where
  pub ascii : is_ascii_word cs ≡ true
  pub no_local : is_local_like cs ≡ false
  pub no_label : is_label_like cs ≡ false
  pub bytes : encode_utf8_all cs ≡ cs

not_true : (b : Bool) → not b ≡ true → b ≡ false
not_true true h = cc
not_true false h = refl

pub word_spelling-plain : (word : Word) → IsPlain (word_spelling word)
unfolding word_in
word_spelling-plain word =
    let cs = word_spelling word in
    let plain = (found (λ w. bytes_eq (word_spelling w) cs) is_plain all_words word plain_words (word_in-word_spelling word)).1 in
    let ascii = is_ascii_word cs in
    let first = and_parts (ascii && not (is_local_like cs) && not (is_label_like cs)) (bytes_eq (encode_utf8_all cs) cs) plain in
    let second = and_parts (ascii && not (is_local_like cs)) (not (is_label_like cs)) first.0 in
    let third = and_parts ascii (not (is_local_like cs)) second.0 in
    record {
      ascii = third.0;
      no_local = not_true (is_local_like cs) third.1;
      no_label = not_true (is_label_like cs) second.1;
      bytes = (bytes_eq-Decides (encode_utf8_all cs) cs).0 first.1;
    }
