-- A text has one list of tokens, one tree and one program, and a fault leaves it none.
use Rattle.std.specs.List.{slice_get}
use Rattle.std.proofs.Common.{◌≡◌, ℕ, List, [], ◌∷◌, Some, Result, Err, refl, sym, ◌∙◌, subst}
use Rattle.mm_plain.specs.declared.program.Program.{Program}
use Rattle.mm_lex.specs.declared.text_fault.TextFault.{TextFault}
use Rattle.mm_lex.specs.declared.text_fault.TextFault.TheVariants as faults
use Rattle.mm_lex.specs.declared.token.Token.{Token}
use Rattle.mm_lex.specs.Lexemes.{lexemes}
use Rattle.mm_lex.specs.Tokens.{AreTokensOf, IsFaultOf}
use Rattle.mm_lex.proofs.TextLaws.{AreTokensOf-one, AreTokensOf-no_fault, lexemes-IsLexeme}
use Rattle.mm_ast.specs.declared.items.Ast.{Ast}
use Rattle.mm_ast.specs.Written.{IsWritten}
use Rattle.mm_grammar.specs.Faults.{Refuses}
use Rattle.mm_grammar.specs.Reading.{IsText}
use Rattle.mm_grammar.proofs.Outcomes.{one_tree, text_or_fault}
use Rattle.mm_grammar.proofs.WrittenItems.{text_written}
use Rattle.mm_load_plain.specs.declared.load_error.LoadError.{LoadError}
use Rattle.mm_load_plain.specs.declared.load_error.LoadError.TheVariants as errors
use Rattle.mm_load_plain.specs.declared.rule.Rule.{Rule}
use Rattle.mm_built.specs.Built.{IsBuilt}
use Rattle.mm_load_plain.specs.Meaning.{IsProgram}
use Rattle.mm_load_plain.specs.Rules.{fails, IsFirstFault}
use Rattle.mm_load_plain.specs.WrittenItem.{crate_of}
use Rattle.mm_tool.specs.declared.text_refusal.TextRefusal.TheVariants.{BadText}
use Rattle.mm_tool.specs.Refusals.{of_text, of_load}
use Rattle.mm_tool.specs.Report.{Means}

-- the tree of a text whose tokens are these
pub tree_of : (text : List ℕ) (tokens : List Token) (p : Program) → AreTokensOf text tokens → (m : Means text p) → IsText m.tree (lexemes text tokens)
tree_of text tokens p lexed m = subst (λ ts. IsText m.tree (lexemes text ts)) (AreTokensOf-one text m.tokens tokens m.lexed lexed) m.spelled

-- the program of a text whose tree is this
pub program_of : (text : List ℕ) (tokens : List Token) (tree : Ast) (p : Program) → AreTokensOf text tokens → IsText tree (lexemes text tokens) → Means text p → IsProgram tree p
program_of text tokens tree p lexed spelled m = subst (λ t. IsProgram t p) (one_tree (lexemes text tokens) m.tree tree (tree_of text tokens p lexed m) spelled) m.loaded

pub meaning_one : (text : List ℕ) (p q : Program) → Means text p → Means text q → p ≡ q
meaning_one text p q m n =
    let is = program_of text n.tokens n.tree p n.lexed n.spelled m in
    is.means ∙ sym n.loaded.means

-- the tree of a text that means a program is written as one
pub tree_written : (text : List ℕ) (p : Program) → (m : Means text p) → IsWritten m.tree
tree_written text p m = text_written m.tree (lexemes text m.tokens) (lexemes-IsLexeme text m.tokens m.lexed) m.spelled

-- a text without tokens means no program
pub unlexed : (text : List ℕ) (fault : TextFault) (p : Program) → IsFaultOf text fault → of_text fault ≡ BadText → Means text p → ⊥
unlexed text (faults.BadText line column rule) p is bad m = AreTokensOf-no_fault text m.tokens rule line column m.lexed is
unlexed text faults.NoMemory p is bad m = cc

-- nor does one whose tokens spell no tree
pub unparsed : (text : List ℕ) (tokens : List Token) (fault : TextFault) (p : Program) → AreTokensOf text tokens → Refuses text tokens fault → of_text fault ≡ BadText → Means text p → ⊥
unparsed text tokens (faults.BadText line column rule) p lexed is bad m = text_or_fault (lexemes text tokens) is.rest m.tree is.fault (tree_of text tokens p lexed m) is.first
unparsed text tokens faults.NoMemory p lexed is bad m = cc

pub none_first : (lines : List ℕ) (line : ℕ) → lines ≡ [] → slice_get lines 0 ≡ Some line → ⊥
none_first [] line none first = cc
none_first (l ∷ ls) line none first = cc

-- nor one whose tree is not loaded
pub unloaded : (tree : Ast) (e : LoadError) (p : Program) → ((rule : Rule) (line : ℕ) → e ≡ errors.Rule rule line → IsFirstFault tree rule line) → (e ≡ errors.NotBuilt → IsBuilt tree → ⊥) → of_load e ≡ BadText → IsProgram tree p → ⊥
unloaded tree (errors.Rule rule line) p fault unbuilt bad is = none_first (fails rule (crate_of tree)) line (is.kept rule) (fault rule line refl).fault.first
unloaded tree errors.NotBuilt p fault unbuilt bad is = unbuilt refl is.built
unloaded tree errors.NoMemory p fault unbuilt bad is = cc

-- the error that a call handed on
pub handed_on : {A E : Type 0} (r : Result A E) (x y e : E) → r ≡ Err x → x ≡ y → r ≡ Err e → y ≡ e
handed_on r x y e f g h = cc
