-- A text that is to be written in its canonical form has one answer.
use Rattle.std.proofs.Common.{◌≡◌, ◌⊎◌, inl, inr, ℕ, List, [], ◌∷◌, ◌++◌, Some, refl, sym, ◌∙◌, ap, subst, codes}
use Rattle.std.specs.Prelude.{decimal}
use Rattle.std.specs.List.{slice_get}
use Rattle.mm_lex.specs.declared.token.Token.{Token}
use Rattle.mm_lex.specs.declared.text_fault.TextRule.{TextRule}
use Rattle.mm_lex.specs.declared.text_fault.TextFault.{TextFault}
use Rattle.mm_lex.specs.declared.text_fault.TextFault.TheVariants.{BadText, NoMemory}
use Rattle.mm_lex.specs.Lexemes.{Lexeme, lexemes}
use Rattle.mm_lex.specs.Tokens.{AreTokensOf, IsFaultOf}
use Rattle.mm_lex.proofs.TextLaws.{AreTokensOf-one, AreTokensOf-no_fault, IsLexicalFault-one}
use Rattle.mm_ast.specs.declared.items.Ast.{Ast}
use Rattle.mm_ast.specs.declared.items.Crate.{Crate}
use Rattle.mm_grammar.specs.Faults.{StandsAt, rule_of, IsGrammarFault, Refuses}
use Rattle.mm_grammar.specs.Reading.{IsText}
use Rattle.mm_grammar.proofs.Outcomes.{one_tree, text_or_fault, one_first}
use Rattle.mm_load_plain.specs.declared.rule.Rule.{Rule}
use Rattle.mm_load_plain.specs.declared.rule.Rule.TheVariants as rules
use Rattle.mm_load_plain.specs.Rules.{fails, before, Kept, IsFirstIn, IsFirstFault}
use Rattle.mm_load_plain.specs.WrittenItem.{crate_of}
use Rattle.mm_print.proofs.Canonicals.{one_canonical}
use Rattle.mm_tool.specs.Formatting.{rule_name, TellsFault, IsPrinted, SaysBadCrate, SaysNotBuilt, IsTreeFormat, IsReadAs, IsUnlexed, IsUnparsed, IsFormat}
use Rattle.mm_tool.proofs.Meanings.{none_first}
use Rattle.mm_tool.proofs.Reports.{Same}

-- ---- a tree breaks one first rule

some_same : (m n : ℕ) → Some m ≡ Some n → m ≡ n
some_same m n same = cc

module _ (krate : Crate) where
  -- a rule that is kept has no first line
  broken : (rule : Rule) (line : ℕ) → fails rule krate ≡ [] → IsFirstIn krate rule line → ⊥
  broken rule line kept is = none_first (fails rule krate) line kept is.first

  first_rule : (r s : Rule) (m n : ℕ) → IsFirstIn krate r m → IsFirstIn krate s n → (r ≡ s) × (m ≡ n)
  first_rule rules.UnknownName rules.UnknownName m n a b = (refl, some_same m n (sym a.first ∙ b.first))
  first_rule rules.UnknownName rules.DoubleName m n a b = absurd (broken rules.UnknownName m b.earlier.0 a)
  first_rule rules.UnknownName rules.WrongArity m n a b = absurd (broken rules.UnknownName m b.earlier.0 a)
  first_rule rules.UnknownName rules.BadMain m n a b = absurd (broken rules.UnknownName m b.earlier.0 a)
  first_rule rules.UnknownName rules.LongType m n a b = absurd (broken rules.UnknownName m b.earlier.0 a)
  first_rule rules.DoubleName rules.UnknownName m n a b = absurd (broken rules.UnknownName n a.earlier.0 b)
  first_rule rules.DoubleName rules.DoubleName m n a b = (refl, some_same m n (sym a.first ∙ b.first))
  first_rule rules.DoubleName rules.WrongArity m n a b = absurd (broken rules.DoubleName m b.earlier.1.0 a)
  first_rule rules.DoubleName rules.BadMain m n a b = absurd (broken rules.DoubleName m b.earlier.1.0 a)
  first_rule rules.DoubleName rules.LongType m n a b = absurd (broken rules.DoubleName m b.earlier.1.0 a)
  first_rule rules.WrongArity rules.UnknownName m n a b = absurd (broken rules.UnknownName n a.earlier.0 b)
  first_rule rules.WrongArity rules.DoubleName m n a b = absurd (broken rules.DoubleName n a.earlier.1.0 b)
  first_rule rules.WrongArity rules.WrongArity m n a b = (refl, some_same m n (sym a.first ∙ b.first))
  first_rule rules.WrongArity rules.BadMain m n a b = absurd (broken rules.WrongArity m b.earlier.1.1.0 a)
  first_rule rules.WrongArity rules.LongType m n a b = absurd (broken rules.WrongArity m b.earlier.1.1.0 a)
  first_rule rules.BadMain rules.UnknownName m n a b = absurd (broken rules.UnknownName n a.earlier.0 b)
  first_rule rules.BadMain rules.DoubleName m n a b = absurd (broken rules.DoubleName n a.earlier.1.0 b)
  first_rule rules.BadMain rules.WrongArity m n a b = absurd (broken rules.WrongArity n a.earlier.1.1.0 b)
  first_rule rules.BadMain rules.BadMain m n a b = (refl, some_same m n (sym a.first ∙ b.first))
  first_rule rules.BadMain rules.LongType m n a b = absurd (broken rules.BadMain m b.earlier.1.1.1.0 a)
  first_rule rules.LongType rules.UnknownName m n a b = absurd (broken rules.UnknownName n a.earlier.0 b)
  first_rule rules.LongType rules.DoubleName m n a b = absurd (broken rules.DoubleName n a.earlier.1.0 b)
  first_rule rules.LongType rules.WrongArity m n a b = absurd (broken rules.WrongArity n a.earlier.1.1.0 b)
  first_rule rules.LongType rules.BadMain m n a b = absurd (broken rules.BadMain n a.earlier.1.1.1.0 b)
  first_rule rules.LongType rules.LongType m n a b = (refl, some_same m n (sym a.first ∙ b.first))

-- ---- one answer to a tree

abbrev crate_line : Rule → ℕ → List ℕ
crate_line rule line = codes "error: bad crate at line " ++ decimal line ++ codes ": " ++ rule_name rule ++ 10 ∷ []

crate_line_same : (r s : Rule) (m n : ℕ) → r ≡ s → m ≡ n → crate_line r m ≡ crate_line s n
crate_line_same r s m n a b = λ i. crate_line (a i) (b i)

tree_one : (tree : Ast) (s t : ℕ) (a b : List ℕ) → IsTreeFormat tree s a → IsTreeFormat tree t b → Same s t a b
tree_one tree s t a b (inl one) (inl other) = (one.status_is ∙ sym other.status_is, one_canonical tree a b one.canonical other.canonical)
tree_one tree s t a b (inl one) (inr (inl other)) = absurd (broken (crate_of tree) other.rule other.line (one.loaded.kept other.rule) other.fault.fault)
tree_one tree s t a b (inl one) (inr (inr other)) = absurd (other.unbuilt one.loaded.built)
tree_one tree s t a b (inr (inl one)) (inl other) = absurd (broken (crate_of tree) one.rule one.line (other.loaded.kept one.rule) one.fault.fault)
tree_one tree s t a b (inr (inl one)) (inr (inl other)) =
    let same = first_rule (crate_of tree) one.rule other.rule one.line other.line one.fault.fault other.fault.fault in
    (one.status_is ∙ sym other.status_is, one.output_is ∙ crate_line_same one.rule other.rule one.line other.line same.0 same.1 ∙ sym other.output_is)
tree_one tree s t a b (inr (inl one)) (inr (inr other)) = absurd (other.unbuilt one.fault.built)
tree_one tree s t a b (inr (inr one)) (inl other) = absurd (one.unbuilt other.loaded.built)
tree_one tree s t a b (inr (inr one)) (inr (inl other)) = absurd (one.unbuilt other.fault.built)
tree_one tree s t a b (inr (inr one)) (inr (inr other)) = (one.status_is ∙ sym other.status_is, one.output_is ∙ sym other.output_is)

-- ---- one answer to a text

told_one : (f g : TextFault) (s t : ℕ) (a b : List ℕ) → f ≡ g → TellsFault f s a → TellsFault g t b → Same s t a b
told_one f (BadText line column rule) s t a b same one other =
    let first : TellsFault (BadText line column rule) s a = subst (λ h. TellsFault h s a) same one in
    (first.0 ∙ sym other.0, first.1 ∙ sym other.1)
told_one f NoMemory s t a b same one other = absurd other

bad_same : (line m column k : ℕ) (r u : TextRule) → line ≡ m → column ≡ k → r ≡ u → BadText line column r ≡ BadText m k u
bad_same line m column k r u a b c = λ i. BadText (a i) (b i) (c i)

lexed_one : (text : List ℕ) (f g : TextFault) (s t : ℕ) (a b : List ℕ) → IsFaultOf text f → IsFaultOf text g → TellsFault f s a → TellsFault g t b → Same s t a b
lexed_one text (BadText line column r) (BadText m k u) s t a b is other one two =
    let same = IsLexicalFault-one text r u line column m k is other in
    told_one (BadText line column r) (BadText m k u) s t a b (bad_same line m column k r u same.1 same.2 same.0) one two
lexed_one text NoMemory g s t a b is other one two = absurd one
lexed_one text (BadText line column r) NoMemory s t a b is other one two = absurd two

stands_one : (text : List ℕ) (rest others : List Lexeme) (line column m k : ℕ) → rest ≡ others → StandsAt text rest line column → StandsAt text others m k → (line ≡ m) × (column ≡ k)
stands_one text rest [] line column m k same one other = let first = subst (λ ts. StandsAt text ts line column) same one in (first.0 ∙ sym other.0, first.1 ∙ sym other.1)
stands_one text rest (t ∷ ts) line column m k same one other = let first = subst (λ ts. StandsAt text ts line column) same one in (first.0 ∙ sym other.0, first.1 ∙ sym other.1)

refused_one : (text : List ℕ) (tokens : List Token) (f g : TextFault) (s t : ℕ) (a b : List ℕ) → Refuses text tokens f → Refuses text tokens g → TellsFault f s a → TellsFault g t b → Same s t a b
refused_one text tokens (BadText line column r) (BadText m k u) s t a b is other one two =
    let first = one_first (lexemes text tokens) is.rest other.rest is.fault other.fault is.first other.first in
    let places = stands_one text is.rest other.rest line column m k first.1 is.stands other.stands in
    told_one (BadText line column r) (BadText m k u) s t a b (bad_same line m column k r u places.0 places.1 (is.rule_is ∙ ap rule_of first.0 ∙ sym other.rule_is)) one two
refused_one text tokens NoMemory g s t a b is other one two = absurd one
refused_one text tokens (BadText line column r) NoMemory s t a b is other one two = absurd two

-- tokens and a fault before them
unlexed : (text : List ℕ) (tokens : List Token) (fault : TextFault) (s : ℕ) (a : List ℕ) → AreTokensOf text tokens → IsFaultOf text fault → TellsFault fault s a → ⊥
unlexed text tokens (BadText line column rule) s a lexed is told = AreTokensOf-no_fault text tokens rule line column lexed is
unlexed text tokens NoMemory s a lexed is told = told

-- a tree and a fault of its tokens
unparsed : (text : List ℕ) (tokens : List Token) (tree : Ast) (fault : TextFault) (s : ℕ) (a : List ℕ) → IsText tree (lexemes text tokens) → Refuses text tokens fault → TellsFault fault s a → ⊥
unparsed text tokens tree (BadText line column rule) s a spelled is told = text_or_fault (lexemes text tokens) is.rest tree is.fault spelled is.first
unparsed text tokens tree NoMemory s a spelled is told = told

same_tokens : (text : List ℕ) (ts us : List Token) (fault : TextFault) → AreTokensOf text ts → AreTokensOf text us → Refuses text ts fault → Refuses text us fault
same_tokens text ts us fault one other is = subst (λ vs. Refuses text vs fault) (AreTokensOf-one text ts us one other) is

same_text : (text : List ℕ) (ts us : List Token) (tree : Ast) → AreTokensOf text ts → AreTokensOf text us → IsText tree (lexemes text ts) → IsText tree (lexemes text us)
same_text text ts us tree one other is = subst (λ vs. IsText tree (lexemes text vs)) (AreTokensOf-one text ts us one other) is

pub format_one : (text : List ℕ) (s t : ℕ) (a b : List ℕ) → IsFormat text s a → IsFormat text t b → Same s t a b
format_one text s t a b (inl one) (inl other) =
    let same = one_tree (lexemes text other.tokens) one.tree other.tree (same_text text one.tokens other.tokens one.tree one.lexed other.lexed one.spelled) other.spelled in
    tree_one other.tree s t a b (subst (λ tree. IsTreeFormat tree s a) same one.answer) other.answer
format_one text s t a b (inl one) (inr (inl other)) = absurd (unlexed text one.tokens other.fault t b one.lexed other.first other.told)
format_one text s t a b (inl one) (inr (inr other)) = absurd (unparsed text other.tokens one.tree other.fault t b (same_text text one.tokens other.tokens one.tree one.lexed other.lexed one.spelled) other.first other.told)
format_one text s t a b (inr (inl one)) (inl other) = absurd (unlexed text other.tokens one.fault s a other.lexed one.first one.told)
format_one text s t a b (inr (inl one)) (inr (inl other)) = lexed_one text one.fault other.fault s t a b one.first other.first one.told other.told
format_one text s t a b (inr (inl one)) (inr (inr other)) = absurd (unlexed text other.tokens one.fault s a other.lexed one.first one.told)
format_one text s t a b (inr (inr one)) (inl other) = absurd (unparsed text one.tokens other.tree one.fault s a (same_text text other.tokens one.tokens other.tree other.lexed one.lexed other.spelled) one.first one.told)
format_one text s t a b (inr (inr one)) (inr (inl other)) = absurd (unlexed text one.tokens other.fault t b one.lexed other.first other.told)
format_one text s t a b (inr (inr one)) (inr (inr other)) =
    refused_one text other.tokens one.fault other.fault s t a b (same_tokens text one.tokens other.tokens one.fault one.lexed other.lexed one.first) other.first one.told other.told
