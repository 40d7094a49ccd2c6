-- Which bytes are a name.
use Rattle.std.specs.Prelude.{◌≡◌, ◌≢◌, ℕ, ◌≤◌, ◌||◌, ◌&&◌, ◌==◌, Bool, true, false, List, [], ◌∷◌, length}
use Rattle.std.specs.List.{AllPass, list_all}
use Rattle.std.specs.Char.{is_ascii_digit}
use Rattle.std.specs.Str.{IsUtf8, chars}
use Rattle.unicode_ident.specs.Ident.{is_xid_start, is_xid_continue}
use Rattle.mm_names.specs.declared.word.Word.{Word}
use Rattle.mm_names.specs.Words.{word_spelling}

-- `_`, or a character that may start an identifier
abbrev pub starts_name : ℕ → Bool
starts_name c = is_xid_start c || (c == 95)

-- first a character that starts a name, then characters that continue an identifier
abbrev pub IsNameLike : List ℕ → Type 0
IsNameLike [] = ⊥
IsNameLike (c ∷ cs) = (starts_name c ≡ true) × AllPass is_xid_continue cs

-- `_`, and then ASCII digits only or nothing: bytes that are kept for locals
abbrev pub is_local_like : List ℕ → Bool
is_local_like [] = false
is_local_like (b ∷ bs) = (b == 95) && list_all is_ascii_digit bs

-- `bb`, and then one ASCII digit or more and nothing else: bytes that are kept for labels
abbrev pub is_label_like : List ℕ → Bool
is_label_like [] = false
is_label_like (b ∷ []) = false
is_label_like (b ∷ c ∷ []) = false
is_label_like (b ∷ c ∷ d ∷ ds) = (b == 98) && (c == 98) && list_all is_ascii_digit (d ∷ ds)

-- a name, by its bytes: not too long, no word, and not what is kept for locals and labels
pub record IsName (bytes : List ℕ) : Type 0 where
  pub utf8 : IsUtf8 bytes
  pub form : IsNameLike (chars bytes)
  pub short : length bytes ≤ 255
  pub no_word : (word : Word) → word_spelling word ≢ bytes
  pub no_local : is_local_like bytes ≡ false
  pub no_label : is_label_like bytes ≡ false
