-- A number for each kind of token, by which kinds are told apart.
use Rattle.std.specs.Prelude.{ℕ, ◌+◌, ◌*◌}
use Rattle.mm_names.specs.declared.word.Word.{Word}
use Rattle.mm_names.specs.declared.word.Word.TheVariants as words
use Rattle.mm_lex.specs.declared.punct.Punct.{Punct}
use Rattle.mm_lex.specs.declared.punct.Punct.TheVariants as puncts
use Rattle.mm_lex.specs.Lexemes.{LexemeKind, Lexeme}
use Rattle.mm_lex.specs.Lexemes as kinds

abbrev pub word_code : Word → ℕ
word_code words.Crate = 0
word_code words.Mod = 1
word_code words.Pub = 2
word_code words.Inline = 3
word_code words.Fn = 4
word_code words.Closure = 5
word_code words.Struct = 6
word_code words.Enum = 7
word_code words.Trait = 8
word_code words.Impl = 9
word_code words.For = 10
word_code words.Where = 11
word_code words.Static = 12
word_code words.Const = 13
word_code words.Dyn = 14
word_code words.Let = 15
word_code words.Print = 16
word_code words.Return = 17
word_code words.Goto = 18
word_code words.Switch = 19
word_code words.Else = 20
word_code words.Call = 21
word_code words.Drop = 22
word_code words.Unreachable = 23
word_code words.Copy = 24
word_code words.Move = 25
word_code words.True = 26
word_code words.False = 27
word_code words.New = 28
word_code words.Box = 29
word_code words.Tuple = 30
word_code words.As = 31
word_code words.Variant = 32
word_code words.Not = 33
word_code words.Add = 34
word_code words.Sub = 35
word_code words.Mul = 36
word_code words.Div = 37
word_code words.Rem = 38
word_code words.Eq = 39
word_code words.Lt = 40
word_code words.Dyncast = 41
word_code words.BoxType = 42
word_code words.DropTrait = 43
word_code words.CallTrait = 44
word_code words.SelfType = 45
word_code words.U64 = 46
word_code words.Bool = 47
word_code words.FnPtr = 48
word_code words.FnItem = 49

abbrev pub punct_code : Punct → ℕ
punct_code puncts.PathSep = 0
punct_code puncts.Arrow = 1
punct_code puncts.FatArrow = 2
punct_code puncts.Open = 3
punct_code puncts.Close = 4
punct_code puncts.OpenBrace = 5
punct_code puncts.CloseBrace = 6
punct_code puncts.Less = 7
punct_code puncts.Greater = 8
punct_code puncts.OpenBracket = 9
punct_code puncts.CloseBracket = 10
punct_code puncts.Comma = 11
punct_code puncts.Semicolon = 12
punct_code puncts.Colon = 13
punct_code puncts.Dot = 14
punct_code puncts.Star = 15
punct_code puncts.At = 16
punct_code puncts.Ampersand = 17
punct_code puncts.Equals = 18

-- names, locals, labels and numbers have one each, as each word and each punctuation has
abbrev pub kind_code : LexemeKind → ℕ
kind_code (kinds.Name bytes) = 2
kind_code (kinds.Local n) = 3
kind_code (kinds.Label n) = 4
kind_code (kinds.Number n) = 5
kind_code (kinds.Word w) = 6 * word_code w + 1
kind_code (kinds.Punct p) = 6 * punct_code p
kind_code kinds.Other = 8

abbrev pub code : Lexeme → ℕ
code t = kind_code t.kind
