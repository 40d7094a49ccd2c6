-- What a run of bytes is that begins as a name does, as tests that compute.
use Rattle.std.specs.Prelude.{ℕ, ◌&&◌, Bool, true, false, List, [], ◌∷◌, length, if◌then◌else◌, Option, Some, None, nat_le, drop}
use Rattle.std.specs.List.{find, list_all}
use Rattle.std.specs.Option.{option_map}
use Rattle.std.specs.Str.{is_utf8, chars, bytes_eq}
use Rattle.unicode_ident.specs.Ident.{is_xid_continue}
use Rattle.mm_names.specs.declared.word.Word.{Word}
use Rattle.mm_names.specs.declared.word.Word.TheVariants as words
use Rattle.mm_names.specs.declared.run.Run.{Run}
use Rattle.mm_names.specs.declared.run.Run.TheVariants as runs
use Rattle.mm_names.specs.Words.{word_spelling}
use Rattle.mm_names.specs.Decimals.{number_in}
use Rattle.mm_names.specs.Names.{starts_name, is_local_like, is_label_like}

-- every word
abbrev pub all_words : List Word
all_words =
    words.Crate ∷ words.Mod ∷ words.Pub ∷ words.Inline ∷ words.Fn ∷ words.Closure ∷
    words.Struct ∷ words.Enum ∷ words.Trait ∷ words.Impl ∷ words.For ∷ words.Where ∷
    words.Static ∷ words.Const ∷ words.Dyn ∷ words.Let ∷ words.Print ∷ words.Return ∷
    words.Goto ∷ words.Switch ∷ words.Else ∷ words.Call ∷ words.Drop ∷ words.Unreachable ∷
    words.Copy ∷ words.Move ∷ words.True ∷ words.False ∷ words.New ∷ words.Box ∷ words.Tuple ∷
    words.As ∷ words.Variant ∷ words.Not ∷ words.Add ∷ words.Sub ∷ words.Mul ∷ words.Div ∷
    words.Rem ∷ words.Eq ∷ words.Lt ∷ words.Dyncast ∷ words.BoxType ∷ words.DropTrait ∷
    words.CallTrait ∷ words.SelfType ∷ words.U64 ∷ words.Bool ∷ words.FnPtr ∷ words.FnItem ∷ []

-- the word that the bytes spell
unfoldable pub word_in : List ℕ → Option Word
word_in bytes = find (λ word. bytes_eq (word_spelling word) bytes) all_words

-- a word where there is one, else a name if it is short enough
abbrev pub word_or_name : Option Word → List ℕ → Option Run
word_or_name (Some word) bytes = Some (runs.Word word)
word_or_name None bytes = if nat_le (length bytes) 255 then Some runs.Name else None

abbrev pub named_in : List ℕ → Option Run
named_in bytes = word_or_name (word_in bytes) bytes

-- what the bytes of a run are, whose characters are those of a name
unfoldable pub run_in : List ℕ → Option Run
run_in bytes =
    if is_local_like bytes then option_map runs.Local (number_in 65535 (drop 1 bytes))
    else (if is_label_like bytes then option_map runs.Label (number_in 65535 (drop 2 bytes))
    else named_in bytes)

-- the first character may start a name
abbrev pub first_starts : List ℕ → Bool
first_starts [] = false
first_starts (c ∷ cs) = starts_name c

abbrev pub is_named : Option Run → Bool
is_named (Some runs.Name) = true
is_named _ = false

-- `IsName` as a test
unfoldable pub is_name : List ℕ → Bool
is_name bytes = is_utf8 bytes && first_starts (chars bytes) && list_all is_xid_continue (drop 1 (chars bytes)) && is_named (run_in bytes)
